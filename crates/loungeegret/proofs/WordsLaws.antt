-- The two codings of a work state are inverse where the words are in range. Assumes nothing.
use mathlib.Core.Path.{◌≡◌, refl, sym, ap, ap₂, ◌∙◌, subst}
use mathlib.Core.Bool.{Bool, true, false}
use mathlib.Core.List.{List, [], ◌∷◌, ◌++◌, append_assoc}
use Prim.Native.Nat.{ℕ, zero, suc, ◌+◌, ◌≤◌, ◌<◌}
use native.Mathlib.Omega.{arith}
use borrow.Author.Tests.{ltb-false}
use lib.Dec.{eqb, ltb}
use lib.ListN.{get_or, length, take, drop, length-append, take-append-drop, get_or-append}
use lib.Seq.{get_or-take, take-take, drop-cons, drop_at, take_at, drop-append-add, get_or-append-add, length-take-le, sets, sets-eq}
use mir.Val.{bool_byte}
use Rattle.std.specs.Prelude.{cond}
use Rattle.std.proofs.lemmas.List.{drop-take}
use Rattle.bitset.specs.Sets.{digit}
use Rattle.bitset.specs.Upto.{row}
use Rattle.bitset.proofs.BoolLaws.{or_false_l, or_false_r, cond_elim, cond_false}
use Rattle.circuit.specs.declared.card.Answer.{Answer}
use Rattle.circuit.specs.declared.state.Work.{Work}
use Rattle.circuit.specs.declared.card.End.{End}
use Rattle.circuit.specs.declared.card.End.TheVariants.{Open, Stable, None}
use Rattle.circuit.specs.State.{rows_of, state, blank, bad}
use Rattle.circuit.specs.Card.{end_code, end_of}
use Rattle.filter.specs.declared.cycle.Cursor.{Cursor}
use Rattle.filter.specs.inner.Steps.{state_at}
use Rattle.loungeegret.specs.Words.{state_words, out_of_range, loaded, fields, stored, stored_in}
use Rattle.loungeegret.specs.Results.{refuses, words_after}
use Rattle.loungeegret.specs.declared.words.Loaded.{Loaded}
use Rattle.loungeegret.specs.inner.Parts.{Says, cursor_of, cursor_words, moved_in}

-- ---- the mark and the end

-- the byte of a bool is its digit
pub byte_digit : (b : Bool) → bool_byte b ≡ digit b
unfolding digit
byte_digit true = refl
byte_digit false = refl

digit_most : (b : Bool) → ltb 1 (digit b) ≡ false
unfolding digit
digit_most true = refl
digit_most false = refl

digit_one : (b : Bool) → eqb (digit b) 1 ≡ b
unfolding digit
digit_one true = refl
digit_one false = refl

one_digit : (k : ℕ) → ltb 1 k ≡ false → digit (eqb k 1) ≡ k
unfolding digit
one_digit zero h = refl
one_digit (suc zero) h = refl
one_digit (suc (suc k)) h = absurd (omega (arith, ltb-false 1 (suc (suc k)) h))

end_most : (e : End) → ltb 2 (end_code e) ≡ false
end_most Open = refl
end_most Stable = refl
end_most None = refl

end_of_number : (e : End) → end_of (end_code e) ≡ e
end_of_number Open = refl
end_of_number Stable = refl
end_of_number None = refl

number_of_end : (k : ℕ) → ltb 2 k ≡ false → end_code (end_of k) ≡ k
number_of_end zero h = refl
number_of_end (suc zero) h = refl
number_of_end (suc (suc zero)) h = refl
number_of_end (suc (suc (suc k))) h = absurd (omega (arith, ltb-false 2 (suc (suc (suc k))) h))

-- ---- the words

-- a word that follows the rows
past : (k : ℕ) (rows s : List ℕ) → length rows ≡ 64 → get_or (rows ++ s) (64 + k) 0 ≡ get_or s k 0
past k rows s e = subst (λ (m : ℕ). get_or (rows ++ s) (m + k) 0 ≡ get_or s k 0) e (get_or-append-add rows s k 0)

-- the five words that follow the rows, and the rest
fields_of : (s : List ℕ) → state_words ≤ length s → drop 64 s ≡ get_or s 64 0 ∷ get_or s 65 0 ∷ get_or s 66 0 ∷ get_or s 67 0 ∷ get_or s 68 0 ∷ drop state_words s
fields_of s h =
    rw (drop-cons s 64 0 (omega arith), drop-cons s 65 0 (omega arith), drop-cons s 66 0 (omega arith), drop-cons s 67 0 (omega arith), drop-cons s 68 0 (omega arith))

-- the lent words are the rows, these words and the rest
split : (s : List ℕ) → state_words ≤ length s
    → take 64 s ++ (get_or s 64 0 ∷ get_or s 65 0 ∷ get_or s 66 0 ∷ get_or s 67 0 ∷ get_or s 68 0 ∷ drop state_words s) ≡ s
split s h = rw (sym (fields_of s h)) (take-append-drop 64 s)

module _ (w : Work) (whole : length (rows_of w) ≡ 64) where
  pub length_stored : length (stored w) ≡ state_words
  unfolding stored
  length_stored = length-append (rows_of w) (fields w) ∙ ap (λ (k : ℕ). k + 5) whole

  -- what was stored is loaded again
  pub loaded_stored : (rest : List ℕ) → loaded (stored w ++ rest) ≡ w
  unfolding loaded stored
  loaded_stored rest =
      rw (append_assoc (rows_of w) (fields w) rest)
      (let s : List ℕ = fields w ++ rest in
      rw (
        past 0 (rows_of w) s whole,
        past 1 (rows_of w) s whole,
        past 2 (rows_of w) s whole,
        past 3 (rows_of w) s whole,
        past 4 (rows_of w) s whole,
        take_at (rows_of w) s 64 whole,
        digit_most w.mark,
        digit_one w.mark,
        end_most w.end,
        end_of_number w.end,
      ))

  -- the words that hold it: its rows, and the word of its end
  pub stored_row : (s : List ℕ) (i : ℕ) → i < 64 → row (stored_in s w) i ≡ row (rows_of w) i
  unfolding stored stored_in
  stored_row s i l = ap (λ (x : List ℕ). row x i) (append_assoc (rows_of w) (fields w) (drop state_words s))
      ∙ get_or-append (rows_of w) (fields w ++ drop state_words s) 0 i (subst (λ (k : ℕ). i < k) (sym whole) l)

  pub stored_end : (s : List ℕ) → get_or (stored_in s w) 68 0 ≡ end_code w.end
  unfolding stored stored_in
  stored_end s = ap (λ (x : List ℕ). get_or x 68 0) (append_assoc (rows_of w) (fields w) (drop state_words s)) ∙ past 4 (rows_of w) (fields w ++ drop state_words s) whole

-- the table of the words has 64 of them
pub loaded_long : (s : List ℕ) → state_words ≤ length s → length (rows_of (loaded s)) ≡ 64
unfolding loaded
loaded_long s h = cond_elim (λ (w : Work). length (rows_of w) ≡ 64) (out_of_range s) blank (state (get_or s 64 0) (take 64 s) (get_or s 65 0) (get_or s 66 0) (eqb (get_or s 67 0) 1) (end_of (get_or s 68 0))) (λ _. refl) (λ _. length-take-le 64 s (omega arith))

-- what was loaded is stored again
pub stored_loaded : (s : List ℕ) → state_words ≤ length s → out_of_range s ≡ false → stored_in s (loaded s) ≡ s
unfolding loaded stored stored_in
stored_loaded s h range =
    let mark = or_false_l (ltb 1 (get_or s 67 0)) (ltb 2 (get_or s 68 0)) range in
    let end = or_false_r (ltb 1 (get_or s 67 0)) (ltb 2 (get_or s 68 0)) range in
    rw range
    (rw (
      one_digit (get_or s 67 0) mark,
      number_of_end (get_or s 68 0) end,
      append_assoc (take 64 s),
    )
    (split s h))

-- a call that hands back the state it got leaves the words, taken or refused
pub same_words : (s : List ℕ) (a : Answer) → state_words ≤ length s → out_of_range s ≡ false → words_after s a (loaded s) ≡ s
unfolding words_after
same_words s a h range = cond_elim (λ (t : List ℕ). t ≡ s) (refuses a) s (stored_in s (loaded s)) (λ _. refl) (λ _. stored_loaded s h range)

-- out of range is a bad work state
pub out_of_range_bad : (s : List ℕ) → out_of_range s ≡ true → bad (loaded s) ≡ true
unfolding loaded bad
out_of_range_bad s h = rw h

-- ---- the first of the lent words are the state

pub loaded_front : (s : List ℕ) → loaded (take state_words s) ≡ loaded s
unfolding loaded
loaded_front s =
    rw (
      take-take 64 state_words s (omega arith),
      get_or-take state_words s 64 0 (omega arith),
      get_or-take state_words s 65 0 (omega arith),
      get_or-take state_words s 66 0 (omega arith),
      get_or-take state_words s 67 0 (omega arith),
      get_or-take state_words s 68 0 (omega arith),
    )

-- what is stored in them is stored in all
pub stored_front : (s : List ℕ) (w : Work) → stored_in (take state_words s) w ++ drop state_words s ≡ stored_in s w
unfolding stored_in
stored_front s w = ap (λ (x : List ℕ). (stored w ++ x) ++ drop state_words s) (drop-take state_words 0 s) ∙ append_assoc (stored w) [] (drop state_words s)

both : (b : Bool) (x y x₁ y₁ rest : List ℕ) → x ++ rest ≡ x₁ → y ++ rest ≡ y₁ → cond b x y ++ rest ≡ cond b x₁ y₁
both true x y x₁ y₁ rest l r = l
both false x y x₁ y₁ rest l r = r

pub words_front : (s : List ℕ) (a : Answer) (w : Work) → words_after (take state_words s) a w ++ drop state_words s ≡ words_after s a w
unfolding words_after
words_front s a w =
    both (refuses a) (take state_words s) (stored_in (take state_words s) w) s (stored_in s w) (drop state_words s) (take-append-drop state_words s) (stored_front s w)

-- ---- the stores

-- the five words are stored, and then the rows
pub stores : (s : List ℕ) (w : Work) → state_words ≤ length s → rows_of w ++ drop 64 (sets s 64 (fields w)) ≡ stored_in s w
unfolding stored stored_in
stores s w h =
    let e : sets s 64 (fields w) ≡ take 64 s ++ fields w ++ drop state_words s = sets-eq (fields w) s 64 h in
    rw e
    (rw (append_assoc (take 64 s) (fields w) (drop state_words s), drop_at (take 64 s) (fields w ++ drop state_words s) 64 (length-take-le 64 s (omega arith)))
    (sym (append_assoc (rows_of w) (fields w) (drop state_words s))))

-- the rows are stored, and then place, mark and end; n and the limit stay
pub stores_parts : (s rows : List ℕ) (at : Cursor) → state_words ≤ length s → length rows ≡ 64 → sets (rows ++ drop 64 s) 66 (cursor_words at) ≡ stored_in s (moved_in s rows at)
unfolding stored stored_in
stores_parts s rows at h long =
    let kept : List ℕ = get_or s 64 0 ∷ get_or s 65 0 ∷ [] in
    let rest : List ℕ = get_or s 66 0 ∷ get_or s 67 0 ∷ get_or s 68 0 ∷ drop state_words s in
    let front : List ℕ = rows ++ kept in
    let size : length front ≡ 66 = length-append rows kept ∙ ap (λ (k : ℕ). k + 2) long in
    let is : rows ++ drop 64 s ≡ front ++ rest = ap (λ (x : List ℕ). rows ++ x) (fields_of s h) ∙ sym (append_assoc rows kept rest) in
    let room : 66 + 3 ≤ length (front ++ rest) = omega (arith, length-append front rest, size) in
    let past : drop (66 + 3) (front ++ rest) ≡ drop state_words s = subst (λ (k : ℕ). drop (k + 3) (front ++ rest) ≡ drop state_words s) size (drop-append-add front rest 3) in
    ap (λ (x : List ℕ). sets x 66 (cursor_words at)) is ∙ sets-eq (cursor_words at) (front ++ rest) 66 room
    ∙ ap₂ (λ (x y : List ℕ). x ++ cursor_words at ++ y) (take_at front rest 66 size) past
    ∙ ap (λ (x : List ℕ). x ++ drop state_words s) (append_assoc rows kept (cursor_words at))

-- in range, the words say their parts
pub loaded_parts : (s : List ℕ) → out_of_range s ≡ false → moved_in s (take 64 s) (cursor_of s) ≡ loaded s
unfolding loaded
loaded_parts s range = sym (cond_false blank (moved_in s (take 64 s) (cursor_of s)) range)

-- so a call of the parts is one of the state
pub parts_as : {A : Type 0} (call : Work → A) (back : ℕ → ℕ → A) (s : List ℕ) (parts : Loaded) → Says parts s
    → back parts.n parts.limit ≡ call (state_at parts.n parts.rows parts.limit parts.at) → back (get_or s 64 0) (get_or s 65 0) ≡ call (loaded s)
parts_as call back s parts says e =
    ap₂ back (sym says.n) (sym says.limit) ∙ e
    ∙ ap call
    (ap₂ (λ (x y : ℕ). state_at x parts.rows y parts.at) says.n says.limit ∙ ap₂ (λ (x : List ℕ) (y : Cursor). state_at (get_or s 64 0) x (get_or s 65 0) y) says.rows says.at ∙ loaded_parts s says.range)
