use mathlib.Core.Path.{◌≡◌, sym, ap, ◌∙◌}
use Prim.Native.Nat.{ℕ, ◌+◌, ◌-◌}
use native.Mathlib.Omega.{arith}
use native.Mathlib.Numerals.{add-one, sub-one}
use lib.ListN.{get_or}
use Rattle.circuit.specs.Round.{iter}
use Rattle.circuit.specs.Check.{choice_of}
use Rattle.circuit.proofs.Return.{away_on, away_back}
use Rattle.circuit.proofs.list.returns_last.Goals.{In-loop-moves}
use Rattle.circuit.proofs.list.returns_last.Goals as goal

-- the station that the move leads to
moved : (c : In-loop-moves) → get_or c.args.list.now c.loop-moves.station 0 - 1 ≡ iter (choice_of c.args.list.now) (c.loop-moves.moves + 1) 0
moved c =
    let l = c in
    let s = l.args.list.now in
    sub-one (get_or s l.loop-moves.station 0) ∙ ap (choice_of s) l.loop-moves.invariant.1 ∙ ap (λ (k : ℕ). iter (choice_of s) k 0) (sym (add-one l.loop-moves.moves))

pub returns-then-station-eq0 : goal.returns-then-station-eq0
returns-then-station-eq0 c =
    let l = c in
    let a = l.args in
    away_back a.n l.loop-moves.moves (choice_of a.list.now) l.loop-moves.invariant.2 (omega arith) (sym (moved (goal.at.returns-then-station-eq0 c).In-loop-moves) ∙ c.if-station-eq0.true)

pub loop-moves-preserved : goal.loop-moves-preserved
loop-moves-preserved c =
    let l = c in
    let a = l.args in
    let p = l.requires.1 in
    let m = moved (goal.at.loop-moves-preserved c).In-loop-moves in (
      omega (arith, p.low l.loop-moves.station l.loop-moves.invariant.0, p.high l.loop-moves.station l.loop-moves.invariant.0),
      m,
      away_on l.loop-moves.moves (choice_of a.list.now) l.loop-moves.invariant.2 (λ e. c.if-station-eq0.false (m ∙ e)),
    )
