-- `cut::cut_by_hand` meets its contract.
use mathlib.Core.Path.{sym, ap, ◌∙◌, subst}
use mathlib.Core.Bool.{true≢false}
use mathlib.Core.List.{List}
use Prim.Native.Nat.{ℕ}
use Rattle.circuit.specs.State.{rows_of}
use Rattle.circuit.specs.Verdict.{Sound}
use Rattle.circuit.proofs.StateLaws.{stray_corner}
use Rattle.roads.specs.declared.step.RoadVerdict.{RoadVerdict}
use Rattle.roads.specs.Cut.{verdict_of, DrivesAll}
use Rattle.filter.specs.declared.hand.Called.{Called}
use Rattle.filter.specs.inner.Steps.{state_at}
use Rattle.cut.specs.Call.{cut_by_hand}
use Rattle.cut.proofs.CallLaws.{says_sound, cut_going}
use Rattle.cut.proofs.cut_by_hand.Goals.{After-cut-says}
use Rattle.cut.proofs.cut_by_hand.Goals as goal

sound : (c : After-cut-says) → let w = (state_at c.args.n c.args.rows.now c.args.limit c.args.at) in Sound (DrivesAll w.n c.args.must.now) w.n (rows_of w) (verdict_of c.cut-says.result)
sound c = let w = (state_at c.args.n c.args.rows.now c.args.limit c.args.at) in
    subst (λ (r : RoadVerdict). Sound (DrivesAll w.n c.args.must.now) w.n (rows_of w) (verdict_of r)) (sym c.cut-says.ensures)
    (says_sound w c.args.must.now c.requires.0 c.requires.1 c.requires.2)

pub cut-says-requires : goal.cut-says-requires
cut-says-requires c =
    let g = c.requires.0 in
    (g.most, stray_corner c.args.n c.args.rows.now g.most g.table c.told-rows, c.requires.1, c.requires.2)

pub by_verdict-requires : goal.by_verdict-requires
by_verdict-requires c =
    let g = c.requires.0 in
    (g.most, g.table, (sound (goal.at.by_verdict-requires c).After-cut-says).sub, λ e. absurd (true≢false e), c.requires.3)

pub returns : goal.returns
returns c =
    let w = (state_at c.args.n c.args.rows.now c.args.limit c.args.at) in
    let m : List ℕ = c.args.must.now in
    ap (λ (h : Called). record { answer = h.answer; work = h.work; must = c.cut-says.result.must; removed = h.removed }) (c.by_verdict.ensures c.args.limit)
    ∙ cut_going w m c.cut-says.result c.requires.3 ∙ ap (cut_by_hand w m) c.cut-says.ensures
