-- `loungeegret::first::loungeegret_first_round` meets its contract.
use borrow.Author.Tests.{lt-ltb, le-ltb}
use Rattle.loungeegret.specs.Results.{on_state}
use Rattle.loungeegret.proofs.WordsLaws.{loaded_front}
use Rattle.loungeegret.proofs.first.loungeegret_first_round.Goals as goal

pub returns-in_default : goal.returns-in_default
unfolding on_state
returns-in_default c = let e = lt-ltb _ _ c.in_default.ensures.cases in record { number = rw e; bytes = rw e; outcome = rw e; nodes = rw e }

pub returns : goal.returns
unfolding on_state
returns c =
    let e = le-ltb _ _ c.in-Some.ensures.cases.enough in
    let w = rw (c.in-Some.ensures.cases.same, loaded_front c.args.state.now) at c.load.ensures in
    let d = rw w at c.first_round-sought.ensures.0 in
    let t = rw w at c.first_round-sought.ensures.1 in
    record { number = rw (e, ← d) c.number.ensures; bytes = rw e t; outcome = rw (e, ← d) c.code.ensures; nodes = rw (e, ← d) }
