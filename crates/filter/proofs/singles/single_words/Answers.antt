use mathlib.Core.Path.{◌≡◌, subst}
use Prim.Native.Nat.{ℕ, ◌<◌}
use native.Mathlib.Omega.{arith}
use Rattle.std.proofs.lemmas.List.{length-take-le, get_or-take}
use Rattle.filter.specs.inner.Singles.{SinglesOf}
use Rattle.filter.proofs.SinglesLaws.{singles_start, singles_turn}
use Rattle.filter.proofs.singles.single_words.Goals as goal

pub loop-row-init : goal.loop-row-init
loop-row-init c = singles_start _

pub loop-row-preserved : goal.loop-row-preserved
loop-row-preserved c =
    let v = c.loop-row in
    let low : v.row-index < c.args.n = omega (arith, c.told-rows, c.requires, length-take-le {A = ℕ}) in
    rw get_or-take (singles_turn _ v.row-index c.only_member-w.result _ (rw get_or-take at c.only_member-w.ensures) v.invariant)

pub returns : goal.returns
returns c =
    let v = c.loop-row in
    let e : v.row-index ≡ c.args.n = omega (arith, c.told-rows, c.requires, length-take-le {A = ℕ}) in
    subst (λ (k : ℕ). SinglesOf k c.args.rows.now (record { empty = v.empty; reached = v.reached; again = v.again; once = v.once; twice = v.twice })) e v.invariant
