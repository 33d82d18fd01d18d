-- A seed that is a neighbour of all other stations: they are the second level and the last, so the pass leaves the table as it is. Assumes nothing.
use mathlib.Core.Path.{◌≡◌, refl, sym, ap, ap₂, subst, ◌∙◌}
use mathlib.Core.Logic.{⊎_elim}
use mathlib.Core.Bool.{Bool, true, false, not, ◌&&◌, ◌||◌}
use mathlib.Core.List.{List, [], ◌∷◌}
use Prim.Native.Nat.{ℕ, zero, suc, ◌*◌, ◌^◌, ◌%◌, ◌≤◌, ◌<◌}
use lib.Bits.{bit_or}
use lib.Dec.{eqb, ltb}
use borrow.Author.Tests.{eqb-true, lt-ltb}
use native.Mathlib.Omega.{arith}
use Rattle.bitset.specs.Sets.{has, any, set_of, join}
use Rattle.bitset.specs.Upto.{row}
use Rattle.bitset.proofs.BoolLaws.{not_both, cases, is_false, and_intro, or_l, or_r, or_cases, cond_elim}
use Rattle.bitset.proofs.HasLaws.{has_zero, has_pow}
use Rattle.bitset.proofs.MachineLaws.{shl_one, has_insert}
use Rattle.bitset.proofs.QuantLaws.{any_intro}
use Rattle.bitset.proofs.SetLaws.{has_set_of, set_of_ext, set_of_none, no_member, has_self, has_join, minus_intro, minus_elim}
use Rattle.circuit.specs.Legs.{neighbours}
use Rattle.circuit.specs.Verdict.{leaves}
use Rattle.circuit.specs.inner.Tables.{Columned}
use Rattle.circuit.proofs.LegsLaws.{column_at}
use Rattle.circuit.proofs.StateLaws.{stray_row_lem}
use Rattle.separator.specs.Choice.{stay, step}
use Rattle.separator.specs.Connected.{Joined}
use Rattle.separator.specs.Levels.{neighbourhood, levels_from, levels, unreached, front, inner}
use Rattle.separator.proofs.NeighbourLaws.{neighbours_of}
use Rattle.separator.proofs.ReachLaws.{next_level, from_none, reached_joined}
use Rattle.filter.specs.Pass.{pass_over, pass}
use Rattle.filter.specs.inner.Steps.{NextToAll}
use Rattle.filter.proofs.PassLaws.{pass_over_lem}

-- as the code asks it: the row, the column and the seed are all stations
pub full_next : (n : ℕ) (t cols : List ℕ) (seed : ℕ) → n ≤ 64 → seed < n → Columned n t cols → (full : ℕ) → full ≡ set_of 64 (λ j. ltb j n)
    → eqb (bit_or (bit_or (row t seed) (row cols seed)) ((1 * 2 ^ seed) % 2 ^ 64)) full ≡ true → NextToAll n t seed
full_next n t cols seed le low C full f e k l =
    let both : bit_or (row t seed) (row cols seed) ≡ set_of n (neighbours t seed) =
    ap (bit_or (row t seed)) (ap (λ (c : List ℕ). row c seed) C.columns ∙ column_at n t le seed low) ∙ neighbours_of n seed t (stray_row_lem n t le C.clean seed low) in
    let word : bit_or (set_of n (neighbours t seed)) (2 ^ seed) ≡ set_of 64 (λ j. ltb j n) =
    ap₂ bit_or (sym both) (sym (shl_one 64 seed (omega arith))) ∙ eqb-true _ full e ∙ f in
    ap (λ (b : Bool). b || eqb k seed) (sym (has_set_of n (neighbours t seed) k l)) ∙ sym (has_insert (set_of n (neighbours t seed)) seed k)
    ∙ ap (λ (w : ℕ). has w k) word ∙ has_set_of 64 (λ j. ltb j n) k (omega arith) ∙ lt-ltb k n l

-- where nothing follows the second level, no level lies between the first and the last
no_inner : (f n : ℕ) (t : List ℕ) (seen last : ℕ) → let next = next_level n t seen last in next_level n t (join n seen next) next ≡ 0 → inner (levels_from f n t seen last) ≡ []
unfolding levels_from inner front
no_inner zero n t seen last e = refl
no_inner (suc zero) n t seen last e = cond_elim (λ (ls : List ℕ). inner ls ≡ []) (eqb last 0) [] (last ∷ []) (λ _. refl) (λ _. refl)
no_inner (suc (suc f)) n t seen last e =
    let next : ℕ = next_level n t seen last in
    let then : ℕ = next_level n t (join n seen next) next in
    let more : List ℕ = levels_from f n t (join n (join n seen next) then) then in
    cond_elim (λ (ls : List ℕ). inner ls ≡ []) (eqb last 0) [] (last ∷ levels_from (suc f) n t (join n seen next) next) (λ _. refl) (λ _.
    cond_elim (λ (ls : List ℕ). front ls ≡ []) (eqb next 0) [] (next ∷ more) (λ _. refl) (λ _. ap (λ (ls : List ℕ). front (next ∷ ls)) (from_none f n t _ then e)))

module _ (n : ℕ) (t : List ℕ) (limit seed : ℕ) (low : seed < n) (all : NextToAll n t seed) where
  next : ℕ
  next = next_level n t (2 ^ seed) (2 ^ seed)

  -- a station is the seed or in the next level
  seen : (k : ℕ) → k < n → has (join n (2 ^ seed) next) k ≡ true
  unfolding neighbourhood next
  seen k l = has_join n (2 ^ seed) next k l ∙ ⊎_elim (λ s. or_l (has next k) (has_pow seed k ∙ s)) (λ s. or_r (has (2 ^ seed) k) (found s)) (cases (eqb k seed))
    where
      found : eqb k seed ≡ false → has next k ≡ true
      found s =
          let near : neighbours t seed k ≡ true = ⊎_elim (λ h. h) (λ h. absurd (not_both h s)) (or_cases (neighbours t seed k) (eqb k seed) (all k l)) in
          minus_intro n (neighbourhood n t (2 ^ seed)) (2 ^ seed) k l
          (has_set_of n (λ j. any n (λ i. has (2 ^ seed) i && neighbours t i j)) k l
          ∙ any_intro n (λ i. has (2 ^ seed) i && neighbours t i k) seed low (and_intro (has_self seed) near))
          (has_pow seed k ∙ s)

  -- so none follows
  last : next_level n t (join n (2 ^ seed) next) next ≡ 0
  last = no_member _ (λ k. is_false _ (λ e. let m = minus_elim n (neighbourhood n t next) (join n (2 ^ seed) next) k e in not_both (seen k m.0) m.2))

  -- and every station is reached
  joined : (k : ℕ) → k < n → Joined n t 0 seed k
  joined k l =
      let here : Joined n t 0 seed seed = stay (low, has_zero seed) in
      ⊎_elim (λ h. step here h (l, has_zero k)) (λ h. subst (Joined n t 0 seed) (sym (eqb-true k seed h)) here) (or_cases (neighbours t seed k) (eqb k seed) (all k l))

  all_in : unreached n (levels n t seed) ≡ 0
  unfolding unreached
  all_in = set_of_ext n _ (λ _. false) (λ k l. ap not ((reached_joined n t seed low k).1 (joined k l))) ∙ set_of_none n

  pub next_to_all : pass n t limit seed ≡ leaves t
  unfolding pass_over levels next
  next_to_all = pass_over_lem n t limit seed all_in ∙ ap (λ (ls : List ℕ). pass_over ls n limit t) (no_inner n n t (2 ^ seed) (2 ^ seed) last)
