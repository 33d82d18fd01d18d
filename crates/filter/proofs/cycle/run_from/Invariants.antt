-- `filter::run_from` meets its contract: after so many steps, the state is that of the run with that budget, and the passes known to be idle are.
use mathlib.Core.Path.{◌≡◌}
use Prim.Native.Nat.{ℕ, ◌-◌, ◌≤◌}
use Rattle.circuit.specs.declared.state.Work.{Work}
use Rattle.circuit.specs.Legs.{legs}
use Rattle.circuit.specs.State.{rows_of, Good}
use Rattle.filter.specs.inner.Steps.{IdleSeeds, state_at}
use Rattle.filter.proofs.StepLaws.{Run}
use Rattle.filter.proofs.cycle.run_from.Given as goal

-- what is known at each turn
pub record Running (begun now : Work) (steps n start standing idle : ℕ) : Type 0 where
  pub good : Good begun
  pub run : Run begun now steps
  pub stations : n ≡ begun.n
  pub all : start ≡ legs begun.n (rows_of begun)
  pub left : standing ≡ legs begun.n (rows_of now)
  pub known : IdleSeeds begun.n begun.limit (rows_of now) idle

abbrev pub invariant-loop-steps : goal.invariant-loop-steps
invariant-loop-steps l = (l.steps ≤ l.budget) × Running (state_at l.n l.fn.rows l.limit l.fn.from) (state_at l.n l.net.rows l.limit l.at) l.steps l.net.n l.start l.standing l.idle

abbrev pub decreases-loop-steps : goal.decreases-loop-steps
decreases-loop-steps l = l.budget - l.steps
