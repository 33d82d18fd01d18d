-- One text after another into a lent buffer. Assumes nothing.
use mathlib.Core.Path.{◌≡◌, refl, sym, ap, ◌∙◌, subst}
use mathlib.Core.List.{List, [], ◌++◌, append_assoc, append-nil}
use Prim.Native.Nat.{ℕ, ◌+◌, ◌-◌, ◌≤◌}
use native.Mathlib.Nat.{le_of_eq}
use native.Mathlib.Omega.{arith}
use lib.ListN.{length, take, drop, length-append, length-drop, length-take, drop_of_length-le}
use lib.Seq.{take_all, take_at, drop_at}
use Rattle.std.proofs.lemmas.List.{take-append-drop, drop-drop, length-take-le}
use Rattle.writer.specs.declared.Writer.{Writer}
use Rattle.writer.specs.inner.Writer.{Wrote, HasRoom, Appended, front, back}

-- ---- lent what is left of a buffer

-- the same text, put together in another way
pub wrote_as : {t u d e : List ℕ} {r : ℕ} → t ≡ u → Wrote t d e r → Wrote u d e r
wrote_as {t} {u} {d} {e} {r} q h = subst (λ (x : List ℕ). Wrote x d e r) q h

-- the bytes that were filled are the text
pub wrote_front : {t d e : List ℕ} {r : ℕ} → Wrote t d e r → take r e ≡ t
wrote_front {t} {d} {e} {r} h = ap (take r) h.bytes ∙ take_at t (drop (length t) d) r (sym h.count)

pub wrote_part : {t d e : List ℕ} {r : ℕ} → Wrote t d e r → r ≡ length (take r e)
wrote_part h = h.count ∙ ap length (sym (wrote_front h))

-- Lent `&mut buf[r..]`, whose bytes are `take (length e - r) (drop r e)`, the second writer leaves ys there; the buffer is then
-- `take r e ++ (ys ++ drop (length e - r) (drop r e))`.
pub wrote_then : {t u d e ys : List ℕ} {r s : ℕ} → Wrote t d e r → Wrote u (take (length e - r) (drop r e)) ys s
    → Wrote (t ++ u) d (take r e ++ (ys ++ drop (length e - r) (drop r e))) (r + s)
wrote_then {t} {u} {d} {e} {ys} {r} {s} a b =
    let back : drop r e ≡ drop (length t) d = ap (drop r) a.bytes ∙ drop_at t (drop (length t) d) r (sym a.count) in
    let none : drop (length e - r) (drop r e) ≡ [] = drop_of_length-le (drop r e) (le_of_eq (length-drop r e)) in
    let part : take (length e - r) (drop r e) ≡ drop r e = take_all (length e - r) (drop r e) (le_of_eq (length-drop r e)) in
    let was : ys ≡ u ++ drop (length u) (drop (length t) d) = b.bytes ∙ ap (λ (l : List ℕ). u ++ drop (length u) l) (part ∙ back) in
    record {
      count = omega (arith, a.count, b.count, length-append t u);
      bytes =
          rw (wrote_front a, none, append-nil ys, was, drop-drop (length u) (length t) d, length-append t u, append_assoc t u (drop (length t + length u) d));
    }

-- ---- a writer that goes on

-- by the bytes that the buffer holds
pub appended_by : {t : List ℕ} {v w : Writer} → HasRoom t v → w.buf.ghost_name ≡ v.buf.ghost_name → w.len ≡ v.len + length t
    → w.buf.now ≡ front v ++ (t ++ drop (v.len + length t) v.buf.now) → Appended t v w
appended_by {t} {v} {w} room same count bytes =
    let before : length (front v) ≡ v.len = length-take-le v.len v.buf.now (omega arith) in
    let grown : length (front v ++ t) ≡ w.len = omega (arith, length-append (front v) t) in
    let whole : w.buf.now ≡ (front v ++ t) ++ drop (v.len + length t) v.buf.now = bytes ∙ sym (append_assoc (front v) t (drop (v.len + length t) v.buf.now)) in
    record {
      same_reference = same;
      size = ap length whole ∙ omega (arith, length-append (front v ++ t) (drop (v.len + length t) v.buf.now), length-drop (v.len + length t) v.buf.now);
      count = count;
      front = ap (take w.len) whole ∙ take_at (front v ++ t) (drop (v.len + length t) v.buf.now) w.len grown;
      back = ap (drop w.len) whole ∙ drop_at (front v ++ t) (drop (v.len + length t) v.buf.now) w.len grown ∙ sym (drop-drop (length t) v.len v.buf.now);
    }

-- by what was put into the rest, which is lent: ys is what stands there then
pub appended_rest : {t ys : List ℕ} {v w : Writer} {r : ℕ} → HasRoom t v → w.buf.ghost_name ≡ v.buf.ghost_name
    → Wrote t (take (length v.buf.now - v.len) (drop v.len v.buf.now)) ys r → w.len ≡ v.len + r
    → w.buf.now ≡ take v.len v.buf.now ++ (ys ++ drop (length v.buf.now - v.len) (drop v.len v.buf.now)) → Appended t v w
appended_rest {t} {ys} {v} {w} {r} room same put count bytes =
    let before : length (front v) ≡ v.len = length-take-le v.len v.buf.now (omega arith) in
    let stood : Wrote (front v) v.buf.now v.buf.now v.len =
    record { count = sym before; bytes = sym (take-append-drop v.len v.buf.now) ∙ ap (λ (k : ℕ). front v ++ drop k v.buf.now) (sym before) } in
    let both : length (front v ++ t) ≡ v.len + length t = omega (arith, before, length-append (front v) t) in
    appended_by room same (omega (arith, count, put.count))
    (bytes ∙ (wrote_then stood put).bytes ∙ ap (λ (k : ℕ). (front v ++ t) ++ drop k v.buf.now) both
    ∙ append_assoc (front v) t (drop (v.len + length t) v.buf.now))

-- the same text, put together in another way
pub appended_as : {t u : List ℕ} {v w : Writer} → t ≡ u → Appended t v w → Appended u v w
appended_as {t} {u} {v} {w} q h = subst (λ (x : List ℕ). Appended x v w) q h

pub appended_none : (w : Writer) → Appended [] w w
appended_none w = record { same_reference = refl; size = refl; count = omega arith; front = sym (append-nil (front w)); back = refl }

-- one text, and then another
pub appended_then : {t u : List ℕ} {v w x : Writer} → Appended t v w → Appended u w x → Appended (t ++ u) v x
appended_then {t} {u} {v} {w} {x} a b =
    let both : drop (length u) (drop (length t) (back v)) ≡ drop (length (t ++ u)) (back v) = rw (drop-drop (length u) (length t) (back v), length-append t u) in
    record {
      same_reference = b.same_reference ∙ a.same_reference;
      size = b.size ∙ a.size;
      count = omega (arith, a.count, b.count, length-append t u);
      front = b.front ∙ ap (λ (l : List ℕ). l ++ u) a.front ∙ append_assoc (front v) t u;
      back = b.back ∙ ap (drop (length u)) a.back ∙ both;
    }

-- ---- room for the first part of a text, and for what follows it

pub room_first : (w : Writer) (t u : List ℕ) {s : List ℕ} → t ++ u ≡ s → HasRoom s w → HasRoom t w
room_first w t u q h = omega (arith, ap length q, length-append t u)

pub room_next : {w x : Writer} (t u : List ℕ) {s : List ℕ} → Appended t w x → t ++ u ≡ s → HasRoom s w → HasRoom u x
room_next t u a q h = omega (arith, ap length q, length-append t u, a.count, a.size)

-- ---- from the start of a buffer

-- what is written is the text
pub appended_front : {t : List ℕ} {v w : Writer} → v.len ≡ 0 → Appended t v w → front w ≡ t
appended_front e h = h.front ∙ rw e

pub front_most : (w : Writer) → length (front w) ≤ length w.buf.now
front_most w = omega (arith, length-take w.len w.buf.now)

-- the buffer held d
pub appended_wrote : {t d : List ℕ} {v w : Writer} → v.buf.now ≡ d → v.len ≡ 0 → Appended t v w → Wrote t d w.buf.now w.len
appended_wrote {t} {d} {v} {w} q e h =
    let f : take w.len w.buf.now ≡ t = appended_front e h in
    let b : drop w.len w.buf.now ≡ drop (length t) d = h.back ∙ rw (e, q) in
    record {
      count = omega (arith, h.count);
      bytes = sym (take-append-drop w.len w.buf.now) ∙ rw (f, b);
    }

-- A loop that appends a text, from v on: `left` is still to be written.
pub record Writing (text left : List ℕ) (v w : Writer) : Type 0 where
  pub done : List ℕ
  pub whole : done ++ left ≡ text
  pub appended : Appended done v w
  pub room : HasRoom left w

pub writing_none : {t : List ℕ} {w : Writer} → HasRoom t w → Writing t t w w
writing_none {t} {w} room = record { done = []; whole = refl; appended = appended_none w; room = room }

-- there is room for the next piece u
pub writing_room : {t l : List ℕ} {v w : Writer} (u m : List ℕ) → l ≡ u ++ m → Writing t l v w → HasRoom u w
writing_room u m q h = omega (arith, ap length q, length-append u m, h.room)

pub writing_more : {t l u m : List ℕ} {v w x : Writer} → l ≡ u ++ m → Writing t l v w → Appended u w x → Writing t m v x
writing_more {t} {l} {u} {m} {v} {w} {x} q h b =
    let size : length l ≡ length u + length m = ap length q ∙ length-append u m in
    record {
      done = h.done ++ u;
      whole = append_assoc h.done u m ∙ ap (λ (y : List ℕ). h.done ++ y) (sym q) ∙ h.whole;
      appended = appended_then h.appended b;
      room = omega (arith, size, h.room, b.count, b.size);
    }

pub writing_all : {t l : List ℕ} {v w : Writer} → l ≡ [] → Writing t l v w → Appended t v w
writing_all {t} {l} {v} {w} q h =
    appended_as (sym (append-nil h.done) ∙ ap (λ (x : List ℕ). h.done ++ x) (sym q) ∙ h.whole) h.appended
