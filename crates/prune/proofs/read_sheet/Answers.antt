-- What a read put after the front of the buffer is what it took from the input.
use Rattle.std.proofs.Common.{◌≡◌, ℕ, ◌+◌, ◌≤◌, List, ◌++◌, rules, length, take, drop, sym, ap, ◌∙◌, subst, drop_at, length-take-le}
use Rattle.std.specs.Io.KnownBytes.{Consumes}
use Rattle.std.proofs.KnownBytes.{Consumes-trans, Consumes-kept}
use borrow.Rule.Slice.PartMut.{put_mid, post_of, take_put}
use lib.Seq.{take-add, take-append-le}
use Rattle.prune.proofs.read_sheet.Goals.{in-Ok, in-Err}
use Rattle.prune.proofs.read_sheet.Goals as goal

front : (a k n : ℕ) (xs ys : List ℕ) → a ≤ length xs → n ≤ length ys → take (a + n) (put_mid a k xs ys) ≡ take a xs ++ take n ys
front a k n xs ys within fits =
    let rest = post_of a k xs in
    let after = ap (take n) (drop_at (take a xs) (ys ++ rest) a (length-take-le a xs within)) ∙ take-append-le n ys rest fits in
    take-add a n (put_mid a k xs ys) ∙ ap (λ l. l ++ take n (drop a (put_mid a k xs ys))) (take_put a k xs ys within) ∙ ap (λ l. take a xs ++ l) after

pub loop-preserved : goal.loop-preserved
loop-preserved g c =
    let inv = c.loop.invariant in
    elim c.match-read.branch [
      | in-Ok w ↦
          let got = w.in-Ok.ensures in
          rw w.len-is (search rules, subst (Consumes _ _) (sym (front c.loop.len _ w.in-Ok.more c.loop.buf c.read.new.buf inv.0 got.bound.0)) (Consumes-trans _ _ _ _ _ inv.1 got.bytes.0))
      | in-Err w ↦
          rw w.len-is (search rules, subst (Consumes _ _) (sym (take_put c.loop.len _ c.loop.buf c.read.new.buf inv.0)) (Consumes-kept _ _ _ _ inv.1 w.in-Err.ensures.bytes))
    ]
