-- `loungeegret::checking::loungeegret_check_list` meets its contract, as `call` does.
use mathlib.Core.Path.{ap, ◌∙◌}
use borrow.Author.Tests.{lt-ltb, le-ltb}
use Rattle.bitset.specs.Sets.{digit}
use Rattle.circuit.specs.Check.{check_call}
use Rattle.loungeegret.specs.Words.{loaded}
use Rattle.loungeegret.specs.Results.{on_state}
use Rattle.loungeegret.proofs.WordsLaws.{byte_digit, out_of_range_bad, parts_as, loaded_front}
use Rattle.loungeegret.proofs.checking.loungeegret_check_list.Goals as goal

pub returns-in_default : goal.returns-in_default
unfolding on_state
returns-in_default c = let e = lt-ltb _ _ c.in_default.ensures.cases in record { number = rw e; yes = rw e }

pub returns-in_default-of : goal.returns-in_default-of
unfolding on_state check_call digit
returns-in_default-of c =
    let e = le-ltb _ _ c.in-Some.ensures.cases.enough in
    let b = rw (c.in-Some.ensures.cases.same, loaded_front c.args.state.now) at (out_of_range_bad c.in-Some.state.now c.in_default-of.ensures) in
    record { number = rw (e, b) c.number.ensures; yes = rw (e, b) }

pub returns : goal.returns
unfolding on_state
returns c =
    let a = c.args in
    let e = le-ltb _ _ c.in-Some.ensures.cases.enough in
    let parts = c.in-Some-of.work in
    let d = parts_as (λ w. check_call w a.list.now) (λ n l. c.check_list_in-checked.result) c.in-Some.state.now parts c.in-Some-of.ensures (c.check_list_in-checked.ensures parts.at.mark parts.at.end)
    ∙ ap (λ w. check_call w a.list.now) (ap loaded c.in-Some.ensures.cases.same ∙ loaded_front a.state.now) in
    record { number = rw (e, ← d) c.number-2.ensures; yes = rw (e, ← d) (byte_digit _) }
