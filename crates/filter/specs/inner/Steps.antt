-- What the functions inside the crate promise each other.
use Rattle.std.specs.Prelude.{◌≡◌, Bool, true, false, cond, ◌||◌, List, ℕ, ◌^◌, ◌<◌, eqb, leb, length, get_or}
use Rattle.bitset.specs.Sets.{has, size}
use Rattle.circuit.specs.declared.state.Work.{Work}
use Rattle.circuit.specs.declared.verdict.Verdict.{Verdict}
use Rattle.circuit.specs.Legs.{neighbours}
use Rattle.circuit.specs.State.{is_none, rows_of, state, moved, stray}
use Rattle.circuit.specs.Verdict.{leaves}
use Rattle.separator.specs.Level.{level}
use Rattle.filter.specs.declared.cycle.Cursor.{Cursor}
use Rattle.filter.specs.declared.cycle.Ran.{Ran}
use Rattle.filter.specs.declared.cycle.RanIn.{RanIn}
use Rattle.filter.specs.declared.hand.Called.{Called}
use Rattle.filter.specs.declared.hand.CalledIn.{CalledIn}
use Rattle.separator.specs.declared.Taken.{Taken}
use Rattle.filter.specs.Pass.{pass}
use Rattle.filter.specs.Calls.{gone, by_hand, after}

-- every station is a neighbour of the seed, or the seed
abbrev pub NextToAll : ℕ → List ℕ → ℕ → Type 0
NextToAll n t seed = (k : ℕ) → k < n → neighbours t seed k || eqb k seed ≡ true

-- the verdict of one level: that of its rule, or nothing where it is over the limit
abbrev pub limited : ℕ → ℕ → ℕ → List ℕ → Verdict
limited n limit s t = cond (leb (size n s) limit) (level n t s) (leaves t)

-- the first `count` words are sets of stations
abbrev pub LevelsBelow : ℕ → ℕ → List ℕ → Type 0
LevelsBelow n count level = (k : ℕ) → k < count → get_or level k 0 < 2 ^ n

-- the verdict v of the rows t was taken on them; where no leg is said to have gone, they are still t
pub record TableLeft (v : Verdict) (r : Taken) (t rows : List ℕ) : Type 0 where
  pub verdict : v ≡ record { none = r.none; left = rows }
  pub same : r.struck ≡ false → rows ≡ t

-- the same on rows alone: what a network says of its own is said of them
pub record RowsLeft (n : ℕ) (v : Verdict) (r : Taken) (t rows : List ℕ) : Type 0 where
  pub table : TableLeft v r t rows
  pub clean : stray n rows ≡ false
  pub len : length rows ≡ 64

-- the passes whose seeds are in the word leave the table as it is
abbrev pub IdleSeeds : ℕ → ℕ → List ℕ → ℕ → Type 0
IdleSeeds n limit t idle = (seed : ℕ) → has idle seed ≡ true → pass n t limit seed ≡ leaves t

-- where a rule called by hand takes a state whose end is not none: place, mark and end of the state after it
abbrev pub HandMoved : Cursor → Bool → ℕ → Cursor → Type 0
HandMoved at none removed r =
    (w : Work) (v : Verdict) → w.place ≡ at.place → w.mark ≡ at.mark → w.end ≡ at.end → is_none w.end ≡ false → v.none ≡ none → removed ≡ gone w v
    → (removed ≡ 0 → v.left ≡ rows_of w) → moved w v.left r.place r.mark r.end ≡ (by_hand w v).work

-- where a step with a verdict takes the run: place, mark and end of the state after it
abbrev pub Advanced : ℕ → Cursor → Bool → ℕ → Cursor → Type 0
Advanced n at none removed r =
    (w : Work) (v : Verdict) → w.n ≡ n → w.place ≡ at.place → w.mark ≡ at.mark → v.none ≡ none → removed ≡ gone w v → moved w v.left r.place r.mark r.end ≡ after w v

-- ---- a state in parts: its rows are lent, and place, mark and end stand apart

abbrev pub state_at : ℕ → List ℕ → ℕ → Cursor → Work
state_at n rows limit at = state n rows limit at.place at.mark at.end

-- what a rule called by hand and a run hand back, with the rows that they leave
abbrev pub called_as : ℕ → ℕ → List ℕ → CalledIn → Called
called_as n limit rows r = record { answer = r.answer; work = state_at n rows limit r.at; removed = r.removed }

abbrev pub ran_as : ℕ → ℕ → List ℕ → RanIn → Ran
ran_as n limit rows r = record { answer = r.answer; work = state_at n rows limit r.at; steps = r.steps; removed = r.removed }
