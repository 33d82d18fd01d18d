-- `separator::strike` meets its contract. Assumes nothing.
use Rattle.std.specs.Prelude.{ℕ}
use mathlib.Core.Path.{◌≡◌, refl, sym, subst}
use mathlib.Core.Bool.{true≢false}
use mathlib.Core.List.{List}
use native.Mathlib.Omega.{arith}
use Rattle.circuit.specs.inner.Tables.{Columned}
use Rattle.circuit.proofs.StateLaws.{stray_row_lem}
use Rattle.separator.specs.inner.Reach.{Linked}
use Rattle.separator.proofs.PartLaws.{components_most, listed}
use Rattle.separator.proofs.ExactLaws.{level_none, level_leaves, cut_columned}
use Rattle.separator.proofs.strike.Goals.{After-cut}
use Rattle.separator.proofs.strike.Goals as goal

-- the level, and the components outside it
pub invariant_of-level : goal.invariant_of-level
invariant_of-level c =
    let net = c.args.net.now in
    let parts = listed c.requires.1 c.requires.0 c.full.type_inv c.full.ensures c.components_of-count.ensures in
    record { most = omega (arith, parts.many, components_most net.n net.rows c.args.s, net.most); low = c.requires.0; listed = parts }

pub returns-in_default : goal.returns-in_default
returns-in_default c =
    let net = c.args.net.now in
    (refl, level_none net.n net.rows c.args.s (c.in_default.ensures), c.requires.1, λ _. refl)

-- no leg went: the neighbours are still those of the table
pub returns-then-not-struck : goal.returns-then-not-struck
returns-then-not-struck c =
    let net = c.args.net.now in
    let cut = c.cut-struck.ensures in
    let same : c.cut-struck.new.words ≡ net.rows = cut.1 c.if-not-struck.true in (
      refl,
      level_leaves net.n net.rows c.args.s (c.in-Some.ensures) net.most net.columned.clean _ cut.0,
      subst (λ (l : List ℕ). Linked net.n l c.args.nbr.now) (sym same) c.requires.1,
      λ _. same,
    )

-- the rows and the columns that are cut
columned : (c : After-cut) → Columned c.args.net.now.n c.cut-struck.new.words c.cut.new.words
columned c = cut_columned c.args.net.now.most c.args.net.now.columned (c.in-Some.ensures) c.cut-struck.ensures.0 c.cut.ensures.0

pub invariant_of-net-2 : goal.invariant_of-net-2
invariant_of-net-2 c = record { most = c.args.net.now.most; columned = columned c }

pub neighbours-requires : goal.neighbours-requires
neighbours-requires c =
    let most = c.args.net.now.most in
    let T = columned (goal.at.neighbours-requires c).After-cut in
    (most, stray_row_lem _ _ most T.clean, T.columns)

pub returns : goal.returns
returns c =
    let net = c.args.net.now in (
      refl,
      level_leaves net.n net.rows c.args.s (c.in-Some.ensures) net.most net.columned.clean _ c.cut-struck.ensures.0,
      record { most = net.most; table = c.neighbours.ensures },
      λ e. absurd (true≢false e),
    )
