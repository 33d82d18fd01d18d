-- `roads::cut` meets its contract. Assumes nothing.
use borrow.Author.Rules.{rules}
use mathlib.Core.Path.{◌≡◌, sym, ◌∙◌}
use mir.Val.{Fits}
use mir.Syntax.{w64}
use lib.ListN.{get_or, length}
use Rattle.roads.specs.inner.Promises.{Profile}
use Rattle.roads.proofs.CheckLaws.{check_profile}
use Rattle.roads.proofs.StepLaws.{step_stopped, step_clash, step_goes}
use Rattle.roads.proofs.step.cut.Goals.{Start, then-mark_all-via-then-mark_all, then-mark_all-via-else-mark_all+then-clash}
use Rattle.roads.proofs.step.cut.Goals as goal

-- the checked tables have the profile
profile : (c : Start) → let a = c.args in Profile a.n a.rows a.must
profile c = let a = c.args in
    let p = c.requires in
    let h : length a.must ≡ 64 = search rules in
    check_profile a.n a.rows a.must p.0 p.1 h (λ i l. let f : Fits w64 (get_or a.must i 0) = search rules in f.fits) p.2 p.3

pub mark_all-requires : goal.mark_all-requires
mark_all-requires c = profile (goal.at.mark_all-requires c).Start

pub returns-then-mark_all : goal.returns-then-mark_all
returns-then-mark_all c = let p = profile (goal.at.returns-then-mark_all c).Start in
    let none = c.none-marks.ensures in
    elim c.then-mark_all.branch [
      | then-mark_all-via-then-mark_all w ↦ step_stopped p none.0 none.1 c.mark_all.ensures w.if-mark_all.true
      | then-mark_all-via-else-mark_all+then-clash w ↦ step_clash p none.0 none.1 c.mark_all.ensures w.if-mark_all.false (sym w.clash.ensures ∙ w.if-clash.true)
    ]

pub obliged-requires : goal.obliged-requires
obliged-requires c = let p = profile (goal.at.obliged-requires c).Start in (p.most, p.must_table)

pub returns : goal.returns
returns c = let none = c.none-marks.ensures in
    step_goes (profile (goal.at.returns c).Start) none.0 none.1 c.mark_all.ensures c.difference.result c.obliged.result c.if-mark_all.false (sym c.clash.ensures ∙ c.if-clash.false)
    c.difference.ensures c.obliged.ensures
