-- `loungeegret::calls::loungeegret_run` meets its contract, as `call` does.
use mathlib.Core.Path.{◌≡◌, sym, ap, ◌∙◌}
use lib.ListN.{get_or, take-append-drop}
use borrow.Author.Tests.{lt-ltb, le-ltb}
use Rattle.filter.specs.Calls.{run_call}
use Rattle.filter.specs.inner.Steps.{ran_as}
use Rattle.filter.proofs.RunLaws.{run_bad}
use Rattle.loungeegret.specs.Words.{loaded}
use Rattle.loungeegret.specs.Results.{on_state, words_after}
use Rattle.loungeegret.proofs.WordsLaws.{out_of_range_bad, parts_as, loaded_front, words_front}
use Rattle.loungeegret.proofs.calls.loungeegret_run.Goals.{After-run_in-ran}
use Rattle.loungeegret.proofs.calls.loungeegret_run.Goals as goal

-- what the call hands back
is : (c : After-run_in-ran) → let s = c.in-Some.state.now in
    ran_as (get_or s 64 0) (get_or s 65 0) c.run_in-ran.new.rows c.run_in-ran.result ≡ run_call (loaded c.args.state.now) c.args.budget
is c =
    let s = c.in-Some.state.now in
    parts_as (λ w. run_call w c.args.budget) (λ n l. ran_as n l c.run_in-ran.new.rows c.run_in-ran.result) s c.in-Some-of.work c.in-Some-of.ensures c.run_in-ran.ensures.0
    ∙ ap (λ w. run_call w c.args.budget) (ap loaded c.in-Some.ensures.cases.same ∙ loaded_front c.args.state.now)

pub returns-in_default : goal.returns-in_default
unfolding on_state
returns-in_default c = let e = lt-ltb _ _ c.in_default.ensures.cases in record { number = rw e; words = rw e; steps = rw e; removed = rw e }

pub returns-in_default-of : goal.returns-in_default-of
unfolding on_state words_after
returns-in_default-of c =
    let a = c.args in
    let e = le-ltb _ _ c.in-Some.ensures.cases.enough in
    let b = rw (c.in-Some.ensures.cases.same, loaded_front a.state.now) at (out_of_range_bad c.in-Some.state.now c.in_default-of.ensures) in
    let d = sym (run_bad (loaded a.state.now) a.budget b) in
    record { number = rw (e, ← d) c.number.ensures; words = rw (e, ← d, c.in-Some.ensures.cases.same) (take-append-drop 69 a.state.now); steps = rw (e, ← d); removed = rw (e, ← d) }

pub hand_back-requires : goal.hand_back-requires
hand_back-requires c = λ none. c.run_in-ran.ensures.1 none ∙ c.in-Some-of.ensures.rows

pub returns : goal.returns
unfolding on_state
returns c =
    let a = c.args in
    let e = le-ltb _ _ c.in-Some.ensures.cases.enough in
    let d = is (goal.at.returns c).After-run_in-ran in
    record {
      number = rw (e, ← d) c.hand_back.ensures.0;
      words = rw (e, ← d, c.hand_back.ensures.1, c.in-Some.ensures.cases.same) (words_front a.state.now _ _);
      steps = rw (e, ← d);
      removed = rw (e, ← d);
    }
