-- `circuit::good_entry` meets its contract.
use mathlib.Core.Path.{sym, ap, ◌∙◌}
use native.Mathlib.Numerals.{sub-one}
use Rattle.bitset.specs.Sets.{has}
use Rattle.circuit.specs.inner.Lists.{good_entry}
use Rattle.circuit.proofs.list.good_entry.Goals.{Else-outside}
use Rattle.circuit.proofs.list.good_entry.Goals as goal

pub returns-then-outside : goal.returns-then-outside
unfolding good_entry
returns-then-outside c = rw (sym c.outside.ensures ∙ c.if-outside.true)

pub returns : goal.returns
unfolding good_entry
returns c =
    let l = c in
    let a = l.args in
    rw (sym l.outside.ensures ∙ l.if-outside.false) (c.contains.ensures ∙ ap (has a.legs) (sub-one a.entry))
