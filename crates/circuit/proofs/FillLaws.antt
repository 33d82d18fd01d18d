-- The ways out of a call that writes a text to a lent buffer. Assumes nothing.
use mathlib.Core.Path.{◌≡◌, refl, sym, ap, ◌∙◌, subst}
use mathlib.Core.Logic.{⊎_elim}
use mathlib.Core.Bool.{true, false}
use mathlib.Core.List.{List}
use Prim.Native.Nat.{ℕ, ◌≤◌, ◌<◌}
use native.Mathlib.Omega.{arith}
use lib.ListN.{length, take, drop}
use lib.Seq.{take_at}
use Rattle.bitset.proofs.BoolLaws.{cases, cond_true, cond_false, cond_elim}
use Rattle.writer.specs.Lent.{short, written}
use Rattle.writer.specs.inner.Writer.{Wrote}
use Rattle.writer.proofs.LentLaws.{is_short, has_room, written_short, written_room, written_length}
use Rattle.circuit.specs.declared.filled.Filled.{Filled}
use Rattle.circuit.specs.declared.state.Work.{Work}
use Rattle.circuit.specs.Card.{number, card}
use Rattle.circuit.specs.State.{bad}
use Rattle.circuit.specs.Fill.{filled, fill_call, fill_bytes}
use Rattle.circuit.specs.inner.Fills.{Fills}

-- the same text, put together in another way
pub fills_as : {t u d e : List ℕ} {r : Filled} → t ≡ u → Fills t d e r → Fills u d e r
fills_as {t} {u} {d} {e} {r} q h = subst (λ (x : List ℕ). Fills x d e r) q h

module _ (text d : List ℕ) where
  pub no_room : length d < length text → Fills text d d (record { answer = card 10; len = 0 })
  unfolding filled
  no_room l = record { result = sym (cond_true _ _ (is_short text d l)); bytes = sym (written_short text d l) }

  pub taken : (e : List ℕ) (r : ℕ) → length text ≤ length d → Wrote text d e r → Fills text d e (record { answer = card 0; len = r })
  unfolding filled
  taken e r l h = record { result = rw (has_room text d l, h.count); bytes = h.bytes ∙ sym (written_room text d l) }

  -- where there is room, the call is a writer
  pub fills_wrote : (e : List ℕ) (r : Filled) → length text ≤ length d → r ≡ filled text d → e ≡ written text d → Wrote text d e r.len
  unfolding filled
  fills_wrote e r l p q = record { count = ap (λ (x : Filled). x.len) p ∙ rw (has_room text d l); bytes = q ∙ written_room text d l }

-- ---- the text of a work state

-- the call hands back r, and leaves e in the buffer
abbrev FillsFrom : Work → List ℕ → List ℕ → List ℕ → Filled → Type 0
FillsFrom w text d e r = (r ≡ fill_call w text d) × (e ≡ fill_bytes w text d)

module _ (w : Work) (text d : List ℕ) where
  pub bad_work : bad w ≡ true → FillsFrom w text d d (record { answer = card 7; len = 0 })
  unfolding fill_call fill_bytes
  bad_work e = (sym (cond_true _ _ e), sym (cond_true _ _ e))

  pub good_work : {e : List ℕ} {r : Filled} → bad w ≡ false → Fills text d e r → FillsFrom w text d e r
  unfolding fill_call fill_bytes
  good_work g h = (h.result ∙ sym (cond_false _ (filled text d) g), h.bytes ∙ sym (cond_false d (written text d) g))

  -- the buffer keeps its length
  pub fill_length : length (fill_bytes w text d) ≡ length d
  unfolding fill_bytes
  fill_length = cond_elim (λ (l : List ℕ). length l ≡ length d) (bad w) d (written text d) (λ _. refl) (λ _. written_length text d)

  -- the bytes that a taken call fills are the text
  pub fill_front : (fill_call w text d).answer ≡ card 0 → take (fill_call w text d).len (fill_bytes w text d) ≡ text
  unfolding fill_call fill_bytes filled written
  fill_front h =
      ⊎_elim (λ (e : bad w ≡ true). absurd (let k : number (card 7) ≡ 0 = ap number (rw e at h) in let z : ⊥ = omega arith in z)) (λ (e : bad w ≡ false).
      ⊎_elim (λ (s : short text d ≡ true). absurd (let k : number (card 10) ≡ 0 = ap number (rw (e, s) at h) in let z : ⊥ = omega arith in z))
      (λ (s : short text d ≡ false). rw (e, s) (take_at text (drop (length text) d) (length text) refl)) (cases (short text d))) (cases (bad w))

  -- a refusal has length 0 and changes no byte
  pub fill_refused : ((fill_call w text d).answer ≡ card 0 → ⊥) → ((fill_call w text d).len ≡ 0) × (fill_bytes w text d ≡ d)
  unfolding fill_call fill_bytes filled written
  fill_refused h =
      ⊎_elim (λ (e : bad w ≡ true). (rw e, rw e)) (λ (e : bad w ≡ false).
      ⊎_elim (λ (s : short text d ≡ true). (rw (e, s), rw (e, s))) (λ (s : short text d ≡ false). absurd (h (rw (e, s)))) (cases (short text d))) (cases (bad w))
