-- A run with the full budget leaves a state in the lent words whose end is stable or none (W-206). Assumes nothing.
use mathlib.Core.Path.{◌≡◌, sym, ap, ◌∙◌, subst}
use mathlib.Core.Logic.{⊎_elim}
use mathlib.Core.Bool.{false}
use mathlib.Core.List.{List}
use Prim.Native.Nat.{ℕ, ◌≤◌}
use native.Mathlib.Omega.{arith}
use lib.ListN.{length}
use borrow.Author.Tests.{lt-ltb}
use Rattle.bitset.proofs.BoolLaws.{is_false, cond_true}
use Rattle.bitset.proofs.QuantLaws.{below?}
use Rattle.circuit.specs.Card.{number}
use Rattle.circuit.specs.State.{bad}
use Rattle.circuit.proofs.StateLaws.{good}
use Rattle.filter.specs.declared.cycle.Ran.{Ran}
use Rattle.filter.specs.Calls.{run_call}
use Rattle.filter.specs.Ends.{Ended, full_budget}
use Rattle.filter.proofs.RunLaws.{run_bad}
use Rattle.filter.proofs.CeilingLaws.{run_enough}
use Rattle.demands.specs.Sequence.{running, handed}
use Rattle.loungeegret.specs.Words.{state_words, loaded}
use Rattle.loungeegret.specs.Results.{no_state, on_state, RunResult}
use Rattle.loungeegret.specs.Sequence.{words_handed}
use Rattle.loungeegret.proofs.SequenceLaws.{on_state_lem, lent_holds, handed_holds}

module _ (s s₁ : List ℕ) (budget m m₁ k k₁ r : ℕ) (R : RunResult (run_call (loaded s) budget) s s₁ m m₁ k k₁ r) (full : full_budget ≤ budget) (zero : r ≡ 0) where
  abbrev c : Ran
  c = run_call (loaded s) budget

  -- the number 0 says that the words suffice, and that the state is not bad
  suffice : state_words ≤ length s
  unfolding on_state
  suffice = ⊎_elim (λ l. let q : 0 ≡ no_state = sym zero ∙ R.number ∙ cond_true no_state (number c.answer) (lt-ltb (length s) state_words l) in absurd (omega (arith, q))) (λ h. h) (below? (length s) state_words)

  not_bad : bad (loaded s) ≡ false
  not_bad =
      is_false (bad (loaded s)) (λ e.
      let q : 0 ≡ 7 = sym zero ∙ R.number ∙ on_state_lem s no_state (number c.answer) suffice ∙ ap (λ (x : Ran). number x.answer) (run_bad (loaded s) budget e) in
      omega (arith, q))

  -- the words hold what the run hands back
  held : loaded s₁ ≡ c.work
  unfolding words_handed handed
  held = ap loaded R.words ∙ (handed_holds s s (loaded s) (lent_holds s suffice) (running budget)).is

  pub run_ended : Ended (loaded s₁)
  run_ended = subst Ended (sym held) (run_enough (loaded s) (good (loaded s) not_bad) budget full)
