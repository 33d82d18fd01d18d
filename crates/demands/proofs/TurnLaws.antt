-- Runs in turns add up in a sequence of calls, where no call by hand stands between (W-211). Assumes nothing.
use mathlib.Core.Path.{◌≡◌, refl, sym, ap, ◌∙◌}
use mathlib.Core.Bool.{false}
use mathlib.Core.List.{List, [], ◌∷◌}
use Rattle.bitset.proofs.BoolLaws.{clash}
use Rattle.circuit.specs.declared.state.Work.{Work}
use Rattle.filter.specs.declared.cycle.Ran.{Ran}
use Rattle.filter.specs.Calls.{run_call}
use Rattle.filter.proofs.TurnLaws.{run_sum, run_nothing}
use Rattle.demands.specs.Sequence.{Call, calling, running, cutting, asking, handed, after_all}
use Rattle.demands.specs.Turns.{is_by_hand, budget_of, budgets_of, OneRun}

-- a run with budget 0 hands back the state that it was given
nothing_run : (w : Work) → w ≡ (run_call w 0).work
nothing_run w = sym (ap (λ (r : Ran). r.work) (run_nothing w))

-- a call that is none by hand hands back what a run with its budget does
pub handed_run : (w : Work) (c : Call) → is_by_hand c ≡ false → handed w c ≡ (run_call w (budget_of c)).work
unfolding handed is_by_hand budget_of
handed_run w (calling r) e = clash e
handed_run w (running budget) e = refl
handed_run w (cutting must) e = clash e
handed_run w (asking q) e = nothing_run w

pub one_run : (w : Work) (cs : List Call) → OneRun w cs
unfolding after_all budgets_of
one_run w [] none = nothing_run w
one_run w (c ∷ cs) (e, none) =
    one_run (handed w c) cs none ∙ ap (λ (u : Work). (run_call u (budgets_of cs)).work) (handed_run w c e)
    ∙ ap (λ (r : Ran). r.work) (run_sum w (budget_of c) (budgets_of cs))
