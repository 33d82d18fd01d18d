use mathlib.Core.Path.{refl, sym, ◌∙◌}
use Rattle.finder.proofs.NodeLaws.{closing_sweep, closing_chain, closing_none}
use Rattle.finder.proofs.search.Finder.comes_to_none.Goals as goal

pub loop-init : goal.loop-init
loop-init c =
    record {
      same = record { kept = record { n = refl; limit = refl; same_reference = refl }; left = refl; list = refl };
      closing = record { long = c.requires.long; inside = λ t F I. I };
    }

pub returns-then-is_none-clause-none : goal.returns-then-is_none-clause-none
returns-then-is_none-clause-none c =
    let k = c.loop.invariant.same.kept in
    let S = closing_sweep _ _ _ c.loop.invariant.closing (rw (k.n, k.limit) at c.call_in-swept.ensures.0) in
    let C = closing_chain _ _ _ S (rw (k.n, k.limit) at c.call_in-chained.ensures.0) in
    λ _. closing_none _ _ c.requires C (sym c.is_none.ensures ∙ c.if-is_none.true)

pub loop-preserved : goal.loop-preserved
loop-preserved c =
    let s = c.loop.invariant.same in
    let k = s.kept in
    let S = closing_sweep _ _ _ c.loop.invariant.closing (rw (k.n, k.limit) at c.call_in-swept.ensures.0) in
    record { same = record { kept = record { n = k.n; limit = k.limit; same_reference = k.same_reference }; left = s.left; list = s.list }; closing = closing_chain _ _ _ S (rw (k.n, k.limit) at c.call_in-chained.ensures.0) }
