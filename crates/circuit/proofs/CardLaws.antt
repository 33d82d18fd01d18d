-- The numbers of the radio card and the words of the ends name each answer and each end. Assumes nothing.
use mathlib.Core.Path.{◌≡◌, refl, sym, ap, ◌∙◌}
use mathlib.Core.Bool.{Bool, true, ◌&&◌}
use mathlib.Core.List.{List, [], ◌∷◌}
use mathlib.Core.Option.{Option, none, some, none-ne-some, some-injective}
use Prim.Native.Nat.{◌≤◌}
use lib.Dec.{eqb, leb}
use borrow.Author.Tests.{leb-true}
use Rattle.bitset.proofs.BoolLaws.{cond_elim, and_l, and_r}
use Rattle.circuit.specs.declared.card.Answer.{Answer}
use Rattle.circuit.specs.declared.card.Answer.TheVariants.{Taken, CutSheet, BadCount, UnknownBit, StrayStation, Overhang, BadLimit, BadWork, StraySeed, WrongLength, NoRoom, NotTwoWay, StrayRoad}
use Rattle.circuit.specs.declared.card.End.{End}
use Rattle.circuit.specs.declared.card.End.TheVariants.{Open, Stable, None}
use Rattle.circuit.specs.Card.{number, answers, find, answer_with, word, end_with}

-- each answer has its number on the card
pub card_number : (a : Answer) → answer_with (number a) ≡ some a
card_number Taken = refl
card_number CutSheet = refl
card_number BadCount = refl
card_number UnknownBit = refl
card_number StrayStation = refl
card_number Overhang = refl
card_number BadLimit = refl
card_number BadWork = refl
card_number StraySeed = refl
card_number WrongLength = refl
card_number NoRoom = refl
card_number NotTwoWay = refl
card_number StrayRoad = refl

-- no two answers have one number
pub number_one : (a b : Answer) → number a ≡ number b → a ≡ b
number_one a b e = ap or (sym (card_number a) ∙ ap answer_with e ∙ card_number b)
  where
    or : Option Answer → Answer
    or none = a
    or (some x) = x

-- every element of the list passes
abbrev every : {A : Type 0} → (A → Bool) → List A → Bool
every q [] = true
every q (a ∷ l) = q a && every q l

-- then so does the one that is found
found_passes : {A : Type 0} (p q : A → Bool) (l : List A) (a : A) → every q l ≡ true → find p l ≡ some a → q a ≡ true
found_passes p q [] a h = λ e. absurd (none-ne-some a e)
found_passes {A} p q (b ∷ l) a h =
    cond_elim (λ (o : Option A). o ≡ some a → q a ≡ true) (p b) (some b) (find p l)
    (λ _ e. ap q (sym (some-injective b a e)) ∙ and_l (q b) (every q l) h) (λ _. found_passes p q l a (and_r (q b) (every q l) h))

-- the numbers of the card have two digits at most, as its list of answers shows
pub number_most : (a : Answer) → number a ≤ 99
number_most a = leb-true (number a) 99 (found_passes (λ b. eqb (number b) (number a)) (λ b. leb (number b) 99) answers a refl (card_number a))

-- each end has its word
pub ending_word : (e : End) → end_with (word e) ≡ some e
ending_word Open = refl
ending_word Stable = refl
ending_word None = refl
