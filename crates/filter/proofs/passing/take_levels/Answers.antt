use mathlib.Core.Path.{refl, ◌∙◌}
use Prim.Native.Nat.{◌≤◌}
use native.Mathlib.Omega.{arith}
use lib.ListN.{length}
use Rattle.filter.proofs.TakeLaws.{passing_start, passing_none, passing_turn, passing_end}
use Rattle.filter.proofs.passing.take_levels.Goals.{Start, At-loop-k}
use Rattle.filter.proofs.passing.take_levels.Goals as goal

-- the levels that are read are there
long : (c : Start) → c.args.found.now.count ≤ length c.args.found.now.level
long c = omega arith

pub loop-k-init : goal.loop-k-init
loop-k-init c = record { stations = refl; passing = passing_start _ _ _ _ _ (long (goal.at.loop-k-init c).Start); near = c.requires.2 }

pub take_level-taken-requires : goal.take_level-taken-requires
take_level-taken-requires c =
    let v = c.loop-k in
    (rw v.invariant.stations (c.requires.1 v.k (omega arith)), v.invariant.near)

pub returns-then-taken : goal.returns-then-taken
returns-then-taken c =
    let v = c.loop-k in
    let e = c.take_level-taken.ensures in (
      e.0 ∙ v.invariant.stations,
      passing_none _ _ _ _ _ (long (goal.at.returns-then-taken c).Start) v.k _ _ v.invariant.passing (omega arith) c.take_level-taken.result _ (rw v.invariant.stations at e.1) c.if-taken.true,
    )

pub loop-k-preserved : goal.loop-k-preserved
loop-k-preserved c =
    let v = c.loop-k in
    let e = c.take_level-taken.ensures in
    record {
      stations = e.0 ∙ v.invariant.stations;
      passing = passing_turn _ _ _ _ _ (long (goal.at.loop-k-preserved c).Start) v.k _ _ v.invariant.passing (omega arith) c.take_level-taken.result _ (rw v.invariant.stations at e.1) c.if-taken.false;
      near = e.2;
    }

pub returns : goal.returns
returns c =
    let v = c.loop-k in
    (v.invariant.stations, passing_end _ _ _ _ _ (long (goal.at.returns c).Start) v.k _ _ v.invariant.passing (omega arith))
