-- A loop of writers, each lent what those before it left of the buffer. Assumes nothing.
use mathlib.Core.Path.{◌≡◌, refl, sym, ap, ◌∙◌}
use mathlib.Core.List.{List, [], ◌++◌, append_assoc, append-nil}
use Prim.Native.Nat.{ℕ, ◌+◌, ◌-◌, ◌≤◌}
use native.Mathlib.Omega.{arith}
use lib.ListN.{length, take, drop, length-append, length-drop}
use Rattle.writer.specs.inner.Writer.{Wrote}
use Rattle.writer.proofs.WriterLaws.{wrote_as, wrote_then}

wrote_length : {t d e : List ℕ} {r : ℕ} → Wrote t d e r → length t ≤ length d → length e ≡ length d
wrote_length {t} {d} {e} {r} h room = ap length h.bytes ∙ omega (arith, length-append t (drop (length t) d), length-drop (length t) d)

-- r bytes into the text, with `left` still to be written; there is room for it.
pub record Filling (text left d e : List ℕ) (r : ℕ) : Type 0 where
  pub done : List ℕ
  pub whole : done ++ left ≡ text
  pub wrote : Wrote done d e r
  pub room : r + length left ≤ length e
  pub same : length e ≡ length d

pub filling_none : (t d : List ℕ) → length t ≤ length d → Filling t t d d 0
filling_none t d room = record { done = []; whole = refl; wrote = record { count = refl; bytes = refl }; room = omega arith; same = refl }

-- there is room for the next piece u
pub filling_room : {t l d e : List ℕ} {r : ℕ} (u v : List ℕ) → l ≡ u ++ v → Filling t l d e r → r + length u ≤ length e
filling_room u v q h = omega (arith, ap length q, length-append u v, h.room)

pub filling_more : {t l u v d e ys : List ℕ} {r s : ℕ} → l ≡ u ++ v → Filling t l d e r → Wrote u (take (length e - r) (drop r e)) ys s
    → Filling t v d (take r e ++ (ys ++ drop (length e - r) (drop r e))) (r + s)
filling_more {t} {l} {u} {v} {d} {e} {ys} {r} {s} q h b =
    let size : length l ≡ length u + length v = ap length q ∙ length-append u v in
    let a = wrote_then h.wrote b in
    let same : length (take r e ++ (ys ++ drop (length e - r) (drop r e))) ≡ length d = wrote_length a (omega (arith, length-append h.done u, h.wrote.count)) in
    record {
      done = h.done ++ u;
      whole = append_assoc h.done u v ∙ ap (λ (x : List ℕ). h.done ++ x) (sym q) ∙ h.whole;
      wrote = a;
      room = omega (arith, b.count);
      same = same;
    }

pub filling_all : {t l d e : List ℕ} {r : ℕ} → l ≡ [] → Filling t l d e r → Wrote t d e r
filling_all {t} {l} {d} {e} {r} q h =
    wrote_as (sym (append-nil h.done) ∙ ap (λ (x : List ℕ). h.done ++ x) (sym q) ∙ h.whole) h.wrote
