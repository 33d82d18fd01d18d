-- What a stable end means (W-212): no rule strikes anything more. It does not promise a round, and legs that no round drives may be left.
use Rattle.std.specs.Prelude.{◌≡◌, false, cond, ℕ, ◌+◌, ◌≤◌, ◌<◌, length}
use Rattle.circuit.specs.declared.state.Work.{Work}
use Rattle.circuit.specs.Card.{card, ending}
use Rattle.circuit.specs.State.{rows_of, moved, Good}
use Rattle.circuit.specs.Verdict.{leaves}
use Rattle.filter.specs.declared.rule.Rule.{Rule}
use Rattle.filter.specs.declared.cycle.Ran.{Ran}
use Rattle.filter.specs.Rule.{stray_seed, rule_at}
use Rattle.filter.specs.Calls.{unchanged, verdict, hand_call, idle, run_call}

-- the rule leaves the state's table
abbrev pub Leaves : Work → Rule → Type 0
Leaves w r = verdict w r ≡ leaves (rows_of w)

-- the state's table is a fixpoint: every rule leaves it, whatever the seed
abbrev pub Fixpoint : Work → Type 0
Fixpoint w = (r : Rule) → stray_seed w.n r ≡ false → Leaves w r

-- the state opened anew: its table at place 0, the mark clear, the end open
abbrev pub anew : Work → Work
anew w = moved w (rows_of w) 0 false (ending "open")

-- what a run hands back that took one cycle, removed nothing and ended with the state w
abbrev pub one_cycle : Work → Ran
one_cycle w = record { answer = card 0; work = w; steps = w.n + 2; removed = 0 }

-- of a work state whose end is stable
pub record StableMeans (w : Work) : Type 0 where
  -- every sweep, chain step and pass by hand is taken, removes nothing and hands back the same state; a stray seed is refused
  pub hand : (r : Rule) → hand_call w r ≡ unchanged (cond (stray_seed w.n r) (card 8) (card 0)) w
  -- a run takes no step
  pub run : (budget : ℕ) → run_call w budget ≡ idle (card 0) w
  -- opened anew, a run is stable again after one cycle, in the same state
  pub again : (budget : ℕ) → w.n + 2 ≤ budget → run_call (anew w) budget ≡ one_cycle w

-- ---- why, and what a library above carries along

-- What every state has that calls from an opened sheet lead to. A call keeps it that leaves the state, that ends it with none, or that opens
-- it anew with any table: there nothing is said of the rules.
pub record CycleInvariant (w : Work) : Type 0 where
  pub good : Good w
  pub long : length (rows_of w) ≡ 64
  -- while the end is open and the mark clear, the rules at the places before leave the table
  pub clear : w.end ≡ ending "open" → w.mark ≡ false → (k : ℕ) → k < w.place → Leaves w (rule_at k)
  -- where the end is stable all rules do, and the place is 0 and the mark clear
  pub stable : w.end ≡ ending "stable" → Fixpoint w
  pub home : w.end ≡ ending "stable" → (w.place ≡ 0) × (w.mark ≡ false)
