-- `loungeegret::cutting::loungeegret_cut` meets its contract: two paths with too few words, one with words out of range, and one with a state. In each e says
-- whether the words are enough and d what the cut step hands back.
use mathlib.Core.Path.{◌≡◌, ap, ap₂, ◌∙◌}
use lib.ListN.{get_or, take, take-append-drop}
use borrow.Author.Tests.{lt-ltb, le-ltb}
use Rattle.cut.specs.Call.{cut_call}
use Rattle.cut.specs.inner.Parts.{cut_as}
use Rattle.cut.proofs.CallLaws.{cut_bad}
use Rattle.loungeegret.specs.Words.{loaded}
use Rattle.loungeegret.specs.Results.{on_tables, words_after}
use Rattle.loungeegret.proofs.WordsLaws.{out_of_range_bad, parts_as, loaded_front, words_front}
use Rattle.loungeegret.proofs.cutting.loungeegret_cut.Goals.{After-cut_in-called}
use Rattle.loungeegret.proofs.cutting.loungeegret_cut.Goals as goal

-- what the call hands back
is : (c : After-cut_in-called) → let s = c.in-Some.state.now in
    cut_as (get_or s 64 0) (get_or s 65 0) c.cut_in-called.new.rows c.cut_in-called.new.must c.cut_in-called.result ≡ cut_call (loaded c.args.state.now) (take 64 c.args.must.now)
is c =
    let s = c.in-Some.state.now in
    let must = c.in-Some-first_chunk_mut.must.now in
    parts_as (λ w. cut_call w must) (λ n l. cut_as n l c.cut_in-called.new.rows c.cut_in-called.new.must c.cut_in-called.result) s c.in-Some-of.work c.in-Some-of.ensures c.cut_in-called.ensures.0
    ∙ ap₂ cut_call (ap loaded c.in-Some.ensures.cases.same ∙ loaded_front c.args.state.now) c.in-Some-first_chunk_mut.ensures.cases.same

pub returns-in_default : goal.returns-in_default
unfolding on_tables
returns-in_default c = let e = lt-ltb _ _ c.in_default.ensures.cases in record { number = rw e; words = rw e; must = rw e; removed = rw e }

pub returns-in_default-first_chunk_mut : goal.returns-in_default-first_chunk_mut
unfolding on_tables
returns-in_default-first_chunk_mut c =
    let e = le-ltb _ _ c.in-Some.ensures.cases.enough in
    let f = lt-ltb _ _ c.in_default-first_chunk_mut.ensures.cases in
    record { number = rw (e, f); words = rw (e, f, c.in-Some.ensures.cases.same) (take-append-drop 69 c.args.state.now); must = rw (e, f); removed = rw (e, f) }

pub returns-in_default-of : goal.returns-in_default-of
unfolding on_tables words_after
returns-in_default-of c =
    let a = c.args in
    let e = le-ltb _ _ c.in-Some.ensures.cases.enough in
    let f = le-ltb _ _ c.in-Some-first_chunk_mut.ensures.cases.enough in
    let b = rw (c.in-Some.ensures.cases.same, loaded_front a.state.now) at (out_of_range_bad c.in-Some.state.now c.in_default-of.ensures) in
    let d = cut_bad (loaded a.state.now) (take 64 a.must.now) b in
    record {
      number = rw (e, f, ← d) c.number.ensures;
      words = rw (e, f, ← d, c.in-Some.ensures.cases.same) (take-append-drop 69 a.state.now);
      must = rw (e, f, ← d, c.in-Some-first_chunk_mut.ensures.cases.same);
      removed = rw (e, f, ← d);
    }

pub hand_back-requires : goal.hand_back-requires
hand_back-requires c = λ none. c.cut_in-called.ensures.1 none ∙ c.in-Some-of.ensures.rows

pub returns : goal.returns
unfolding on_tables
returns c =
    let a = c.args in
    let e = le-ltb _ _ c.in-Some.ensures.cases.enough in
    let f = le-ltb _ _ c.in-Some-first_chunk_mut.ensures.cases.enough in
    let d = is (goal.at.returns c).After-cut_in-called in
    record {
      number = rw (e, f, ← d) c.hand_back.ensures.0;
      words = rw (e, f, ← d, c.hand_back.ensures.1, c.in-Some.ensures.cases.same) (words_front a.state.now _ _);
      must = rw (e, f, ← d);
      removed = rw (e, f, ← d);
    }
