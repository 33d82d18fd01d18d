-- `loungeegret::calls::call` meets its contract: one path with too few words, one with words out of range, and one with a state. In each e says whether the
-- words are enough and d what the rule's call hands back.
use mathlib.Core.Path.{◌≡◌, ap, ◌∙◌}
use lib.ListN.{get_or, take-append-drop}
use borrow.Author.Tests.{lt-ltb, le-ltb}
use Rattle.filter.specs.Calls.{hand_call}
use Rattle.filter.specs.inner.Steps.{called_as}
use Rattle.filter.proofs.HandLaws.{call_bad}
use Rattle.loungeegret.specs.Words.{loaded}
use Rattle.loungeegret.specs.Results.{on_state, words_after}
use Rattle.loungeegret.proofs.WordsLaws.{out_of_range_bad, parts_as, loaded_front, words_front}
use Rattle.loungeegret.proofs.calls.call.Goals.{After-call_in-called}
use Rattle.loungeegret.proofs.calls.call.Goals as goal

-- what the call hands back
is : (c : After-call_in-called) → let s = c.in-Some.state.now in
    called_as (get_or s 64 0) (get_or s 65 0) c.call_in-called.new.rows c.call_in-called.result ≡ hand_call (loaded c.args.state.now) c.args.rule
is c =
    let s = c.in-Some.state.now in
    parts_as (λ w. hand_call w c.args.rule) (λ n l. called_as n l c.call_in-called.new.rows c.call_in-called.result) s c.in-Some-of.work c.in-Some-of.ensures c.call_in-called.ensures.0
    ∙ ap (λ w. hand_call w c.args.rule) (ap loaded c.in-Some.ensures.cases.same ∙ loaded_front c.args.state.now)

pub returns-in_default : goal.returns-in_default
unfolding on_state
returns-in_default c = let e = lt-ltb _ _ c.in_default.ensures.cases in record { number = rw e; words = rw e; removed = rw e }

pub returns-in_default-of : goal.returns-in_default-of
unfolding on_state words_after
returns-in_default-of c =
    let a = c.args in
    let e = le-ltb _ _ c.in-Some.ensures.cases.enough in
    let b = rw (c.in-Some.ensures.cases.same, loaded_front a.state.now) at (out_of_range_bad c.in-Some.state.now c.in_default-of.ensures) in
    let d = call_bad (loaded a.state.now) a.rule b in
    record { number = rw (e, ← d) c.number.ensures; words = rw (e, ← d, c.in-Some.ensures.cases.same) (take-append-drop 69 a.state.now); removed = rw (e, ← d) }

pub hand_back-requires : goal.hand_back-requires
hand_back-requires c = λ none. c.call_in-called.ensures.1 none ∙ c.in-Some-of.ensures.rows

pub returns : goal.returns
unfolding on_state
returns c =
    let a = c.args in
    let e = le-ltb _ _ c.in-Some.ensures.cases.enough in
    let d = is (goal.at.returns c).After-call_in-called in
    record {
      number = rw (e, ← d) c.hand_back.ensures.0;
      words = rw (e, ← d, c.hand_back.ensures.1, c.in-Some.ensures.cases.same) (words_front a.state.now _ _);
      removed = rw (e, ← d);
    }
