-- `filter::pass_on` meets its contract.
use mathlib.Core.Path.{◌≡◌, refl, sym, ap, ◌∙◌, subst}
use mathlib.Core.List.{List}
use Prim.Native.Nat.{ℕ, ◌≤◌, ◌<◌}
use native.Mathlib.Omega.{arith}
use lib.ListN.{take}
use Rattle.circuit.proofs.StateLaws.{stray_row_lem}
use Rattle.separator.proofs.LevelsLaws.{levels_taken}
use Rattle.separator.proofs.InnerLaws.{level_below}
use Rattle.separator.specs.Levels.{levels, unreached, inner}
use Rattle.separator.specs.inner.Reach.{Linked, LevelsOf}
use Rattle.filter.specs.Pass.{pass_over}
use Rattle.filter.proofs.PassLaws.{pass_unreached, pass_over_lem}
use Rattle.filter.proofs.NextToAllLaws.{next_to_all}
use Rattle.filter.proofs.TakeLaws.{table_as, left_alone, pass_over_idle}
use Rattle.filter.proofs.passing.pass_on.Goals.{After-levels_from-found}
use Rattle.filter.proofs.passing.pass_on.Goals as goal

-- the neighbours are gathered
near : (c : After-levels_from-found) → let net = c.args.net.now in Linked net.n net.rows c.neighbours.new.nbr
near c = record { most = c.args.net.now.most; table = c.neighbours.ensures }

-- the levels are found
found : (c : After-levels_from-found) → let net = c.args.net.now in LevelsOf net.n net.rows c.args.seed c.levels_from-found.result
found c = c.levels_from-found.ensures c.args.net.now.rows (near c)

-- and taken out of the array
taken : (c : After-levels_from-found) → let net = c.args.net.now in
    let found = c.levels_from-found.result in
    (found.count ≤ 64) × (take found.count found.level ≡ levels net.n net.rows c.args.seed)
taken c = let net = c.args.net.now in levels_taken net.n net.rows c.args.seed net.most (found c).listed

-- every station is in one
all : (c : After-levels_from-found) → c.levels_from-found.result.unreached ≡ 0 → let net = c.args.net.now in unreached net.n (levels net.n net.rows c.args.seed) ≡ 0
all c none = sym (found c).unreached ∙ none

pub returns-then-is_next_to_all : goal.returns-then-is_next_to_all
returns-then-is_next_to_all c =
    let net = c.args.net.now in
    (refl, left_alone (next_to_all net.n net.rows c.args.limit c.args.seed c.requires (c.is_next_to_all.ensures c.if-is_next_to_all.true)))

pub neighbours-requires : goal.neighbours-requires
neighbours-requires c =
    let net = c.args.net.now in
    (net.most, stray_row_lem _ _ net.most net.columned.clean, net.columned.columns)

-- a station is unreached
pub returns-then-apart : goal.returns-then-apart
returns-then-apart c =
    let some : 0 < c.levels_from-found.result.unreached = omega (arith, c.if-apart.true) in
    let net = c.args.net.now in
    (refl, left_alone (pass_unreached net.n net.rows c.args.limit c.args.seed (subst (λ (w : ℕ). 0 < w) (found (goal.at.returns-then-apart c).After-levels_from-found).unreached some)))

pub is_idle-requires : goal.is_idle-requires
is_idle-requires c =
    let here = goal.at.is_idle-requires c in
    (c.requires, near here.After-levels_from-found, (taken here.After-levels_from-found).1, all here.After-levels_from-found (omega (arith, c.if-apart.false)), (taken here.After-levels_from-found).0)

-- no level strikes a leg
pub returns-then-is_idle : goal.returns-then-is_idle
returns-then-is_idle c =
    let n = c.args.net.now.n in
    let t = c.args.net.now.rows in (
      refl,
      left_alone (pass_over_lem n t c.args.limit c.args.seed (all (goal.at.returns-then-is_idle c).After-levels_from-found (omega (arith, c.if-apart.false)))
          ∙ pass_over_idle (inner (levels n t c.args.seed)) n c.args.limit t (c.is_idle.ensures c.if-is_idle.true)),
    )

pub take_levels-requires : goal.take_levels-requires
take_levels-requires c =
    let here = (goal.at.take_levels-requires c).After-levels_from-found in
    let net = c.args.net.now in
    ((taken here).0, level_below net.n net.rows c.args.seed _ _ (taken here).1 c.requires, near here)

pub returns : goal.returns
returns c =
    let a = c.args in
    let net = a.net.now in (
      c.take_levels.ensures.0,
      table_as
          (ap (λ (l : List ℕ). pass_over (inner l) net.n a.limit net.rows) (taken (goal.at.returns c).After-levels_from-found).1
          ∙ sym (pass_over_lem net.n net.rows a.limit a.seed (all (goal.at.returns c).After-levels_from-found (omega (arith, c.if-apart.false)))))
          c.take_levels.ensures.1,
    )
