-- `loungeegret::previewing::preview` meets its contract: two paths with too few words, and one with a state.
use native.Mathlib.Omega.{arith}
use borrow.Author.Tests.{lt-ltb, le-ltb}
use lib.Seq.{get_or-take}
use Rattle.loungeegret.specs.Results.{on_tables, shown_end}
use Rattle.loungeegret.proofs.WordsLaws.{loaded_front}
use Rattle.loungeegret.proofs.previewing.preview.Goals as goal

pub returns-in_default : goal.returns-in_default
unfolding on_tables
returns-in_default c = let e = lt-ltb _ _ c.in_default.ensures.cases in record { number = rw e; legs = rw e; end = rw e }

pub returns-in_default-first_chunk_mut : goal.returns-in_default-first_chunk_mut
unfolding on_tables
returns-in_default-first_chunk_mut c =
    let e = le-ltb _ _ c.in-Some.ensures.cases.enough in
    let f = lt-ltb _ _ c.in_default-first_chunk_mut.ensures.cases in
    record { number = rw (e, f); legs = rw (e, f); end = rw (e, f) }

pub returns : goal.returns
unfolding on_tables shown_end
returns c =
    let s = c.args.state.now in
    let e = le-ltb _ _ c.in-Some.ensures.cases.enough in
    let f = le-ltb _ _ c.in-Some-first_chunk_mut.ensures.cases.enough in
    let d = rw (c.load.ensures, c.in-Some.ensures.cases.same, loaded_front s) at c.preview-shown.ensures in
    record {
      number = rw (e, f, ← d) c.number.ensures;
      legs = rw (e, f, ← d, c.copy_from_slice.ensures.after);
      end = rw (e, f, ← d) (rw (c.in-Some.ensures.cases.same, get_or-take 69 s 68 0 (omega arith)) at c.end_word.ensures);
    }
