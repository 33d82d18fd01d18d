-- `idle::settles` meets its contract. Assumes nothing.
use borrow.Author.Tests.{eqb-true}
use Prim.Native.Nat.{ℕ, ◌-◌, ◌^◌, ◌<◌}
use borrow.Author.Rules.{rules}
use lib.Bits.{bit_and}
use Rattle.idle.proofs.PairLaws.{settles_all, settles_some}
use Rattle.idle.proofs.idle.settles.Goals as goal

pub returns-then-spare-s : goal.returns-then-spare-s
returns-then-spare-s c =
    let a = c.args in
    λ e. settles_all a.fits.now a.p a.s a.words.now _ c.in-Some.ensures (eqb-true _ _ e)

pub returns-else-spare-s : goal.returns-else-spare-s
returns-else-spare-s c =
    let a = c.args in
    let spare : ℕ = c.in-Some.spare in
    let fits : spare < 2 ^ 64 = search rules in
    let rest : ℕ = bit_and (bit_and c.union_of_rows.result a.s) ((2 ^ 64 - 1) - spare) in
    λ e.
    settles_some a.fits.now a.p a.s a.words.now spare c.in-Some.ensures c.union_of_rows.result c.ranges.s.fits fits c.union_of_rows.ensures (eqb-true rest 0 e)
