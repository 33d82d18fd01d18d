-- `filter::advance` meets its contract: a return for each case of the rule.
use mathlib.Core.Path.{◌≡◌, sym, ap, ap₂, ◌∙◌}
use mathlib.Core.Bool.{Bool, false, cond, ◌||◌}
use Prim.Native.Nat.{ℕ, ◌+◌}
use native.Mathlib.Omega.{arith}
use lib.Dec.{ltb}
use borrow.Author.Tests.{lt-ltb, le-ltb}
use Rattle.bitset.proofs.BoolLaws.{cond_true, cond_false}
use Rattle.circuit.specs.declared.state.Work.{Work}
use Rattle.circuit.specs.declared.verdict.Verdict.{Verdict}
use Rattle.circuit.specs.declared.card.End.{End}
use Rattle.circuit.specs.declared.card.End.TheVariants.{Open, Stable, None}
use Rattle.circuit.specs.State.{moved, last_place}
use Rattle.filter.specs.Calls.{gone, after}
use Rattle.filter.proofs.StepLaws.{after_none, after_next, after_last}
use Rattle.filter.proofs.cycle.advance.Goals.{Else-at-last_place}
use Rattle.filter.proofs.cycle.advance.Goals as goal

pub returns-then-none : goal.returns-then-none
returns-then-none c = λ w v en ep em ev er. ap₂ (λ (k : ℕ) (b : Bool). moved w v.left k b None) (sym ep) (sym em) ∙ after_none w v (ev ∙ c.if-none.true)

pub returns-then-at-last_place : goal.returns-then-at-last_place
returns-then-at-last_place c = λ w v en ep em ev er.
    let a = c.args in
    let m = a.at.mark || ltb 0 a.removed in
    ap (λ (k : ℕ). moved w v.left (k + 1) m Open) (sym ep)
    ∙ after_next w v m (ap₂ (λ (b : Bool) (k : ℕ). b || ltb 0 k) (sym em) er) (ev ∙ c.if-none.false)
    (lt-ltb w.place (last_place w.n) (omega (arith, c.if-at-last_place.true, c.last_place.ensures, ep, en)))

-- at the last place, by what the mark is
at_last : (c : Else-at-last_place) → (end : End)
    → let a = c.args in
    end ≡ cond (a.at.mark || ltb 0 a.removed) Open Stable
    → (w : Work) (v : Verdict) → w.n ≡ a.n → w.place ≡ a.at.place → w.mark ≡ a.at.mark → v.none ≡ a.none → a.removed ≡ gone w v → moved w v.left 0 false end ≡ after w v
at_last c end e w v en ep em ev er = let a = c.args in
    let m = a.at.mark || ltb 0 a.removed in
    ap (moved w v.left 0 false) e
    ∙ after_last w v m (ap₂ (λ (b : Bool) (k : ℕ). b || ltb 0 k) (sym em) er) (ev ∙ c.if-none.false)
    (le-ltb w.place (last_place w.n) (omega (arith, c.if-at-last_place.false, c.last_place.ensures, ep, en)))

pub returns-then-mark : goal.returns-then-mark
returns-then-mark c = at_last (goal.at.returns-then-mark c).Else-at-last_place Open (sym (cond_true Open Stable c.if-mark.true))

pub returns-else-mark : goal.returns-else-mark
returns-else-mark c = at_last (goal.at.returns-else-mark c).Else-at-last_place Stable (sym (cond_false Open Stable c.if-mark.false))
