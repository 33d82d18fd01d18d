-- Rising through the levels from the seed: what it leads to, and what leads to it, among the levels so far. Assumes nothing.
use mathlib.Core.Path.{◌≡◌, sym, ◌∙◌, subst}
use mathlib.Core.Logic.{⊎_elim}
use mathlib.Core.List.{List}
use Prim.Native.Nat.{ℕ, ◌+◌, ◌^◌, ◌≤◌, ◌<◌}
use native.Mathlib.Omega.{arith}
use lib.Bits.{bit_or}
use lib.ListN.{length, set, length-set}
use lib.Seq.{get_or-set_same, get_or-set_other}
use Rattle.bitset.specs.Upto.{row}
use Rattle.bitset.proofs.BoolLaws.{clash}
use Rattle.bitset.proofs.QuantLaws.{below?}
use Rattle.bitset.proofs.HasLaws.{has_zero}
use Rattle.bitset.proofs.SetLaws.{has_self}
use Rattle.separator.specs.declared.level.Ends.{Ends}
use Rattle.separator.specs.declared.reach.Led.{Led}
use Rattle.separator.specs.inner.Reach.{LedFrom}
use Rattle.idle.specs.inner.Groups.{Part, Reaches, Pairs, Spans, ends_at}
use Rattle.idle.proofs.GroupLaws.{part_or_l, reaches_wider, reaches_start}
use Rattle.idle.proofs.PlaceLaws.{spans_first, spans_up}

-- the pairs of level k by way of the seed and of the levels below it
abbrev pub PairsAt : List ℕ → List ℕ → List ℕ → ℕ → ℕ → Ends → Type 0
PairsAt rows cols level seed k e = (w : ℕ) × Spans level 0 k w × Pairs rows cols w (row level k) seed e.tails e.heads

-- `seen` has the levels below k
pub record Rising (rows cols level : List ℕ) (seed : ℕ) (ends : List Ends) (seen : ℕ) (ahead back : Led) (k : ℕ) : Type 0 where
  pub size : length ends ≡ 32
  pub spans : Spans level 0 k seen
  pub leads : Reaches rows seen seed ahead
  pub led : Reaches cols seen seed back
  pub pairs : (j : ℕ) → 1 ≤ j → j < k → PairsAt rows cols level seed j (ends_at ends j)

module _ {rows cols level : List ℕ} {seed : ℕ} {ends : List Ends} {seen : ℕ} {ahead back : Led} {k : ℕ}
    (R : Rising rows cols level seed ends seen ahead back k) where
  abbrev more : ℕ
  more = bit_or seen (row level k)

  -- the level joins
  pub rising_ahead : Reaches rows more seed ahead
  rising_ahead = reaches_wider R.leads (part_or_l seen (row level k))

  pub rising_back : Reaches cols more seed back
  rising_back = reaches_wider R.led (part_or_l seen (row level k))

  pub rising_turn : (e : Ends) (ahead' back' : Led) → k < 32 → Pairs rows cols seen (row level k) seed e.tails e.heads
      → Reaches rows more seed ahead' → Reaches cols more seed back'
      → Rising rows cols level seed (set ends k e) more ahead' back' (k + 1)
  rising_turn e ahead' back' l P A B =
      record {
        size = length-set ends k e ∙ R.size;
        spans = spans_up (omega arith) R.spans;
        leads = A;
        led = B;
        pairs = λ j a b. ⊎_elim (λ q. old j a q) (λ q. new j (omega arith)) (below? j k);
      }
    where
      new : (j : ℕ) → j ≡ k → PairsAt rows cols level seed j (ends_at (set ends k e) j)
      new j q =
          subst (λ (i : ℕ). PairsAt rows cols level seed i (ends_at (set ends k e) i)) (sym q)
          (subst (PairsAt rows cols level seed k) (sym (get_or-set_same ends k e _ (omega (arith, R.size)))) (seen, R.spans, P))

      old : (j : ℕ) → 1 ≤ j → j < k → PairsAt rows cols level seed j (ends_at (set ends k e) j)
      old j a b = subst (PairsAt rows cols level seed j) (sym (get_or-set_other ends k j e _ (λ q. omega arith))) (R.pairs j a b)

-- the seed alone
pub rising_start : {rows cols level : List ℕ} {seed : ℕ} {ends : List Ends} {ahead back : Led} → length ends ≡ 32 → row level 0 ≡ 2 ^ seed
    → LedFrom rows 0 (2 ^ seed) ahead → LedFrom cols 0 (2 ^ seed) back → Rising rows cols level seed ends (2 ^ seed) ahead back 1
rising_start {seed = seed} size e A B =
    record {
      size = size;
      spans = spans_first seed e;
      leads = reaches_start A none (has_self seed);
      led = reaches_start B none (has_self seed);
      pairs = λ j a b. absurd (let z : ⊥ = omega arith in z);
    }
  where
    none : Part 0 (2 ^ seed)
    none x h = clash (sym h ∙ has_zero x)
