-- `circuit::is_list` meets its contract.
use mathlib.Core.Path.{◌≡◌, sym, ◌∙◌}
use mathlib.Core.Bool.{true}
use Rattle.circuit.specs.inner.Lists.{good_entries}
use Rattle.circuit.proofs.ListLaws.{entries_no, good_numbers, walk_decides}
use Rattle.circuit.proofs.list.is_list.Goals.{Then-good_entries}
use Rattle.circuit.proofs.list.is_list.Goals as goal

entries : (c : Then-good_entries)
    → good_entries c.args.n c.args.rows.now c.args.list.now ≡ true
entries c = sym c.good_entries.ensures ∙ c.if-good_entries.true

pub returns_last-requires : goal.returns_last-requires
returns_last-requires c = let s = c in (s.requires.0, good_numbers _ s.args.rows.now _ s.requires.2 (entries c))

pub returns-then-good_entries : goal.returns-then-good_entries
returns-then-good_entries c = let s = c in walk_decides _ s.args.rows.now _ s.requires.2 (entries (goal.at.returns-then-good_entries c).Then-good_entries) c.returns_last.ensures

pub returns : goal.returns
returns c =
    let s = c in
    sym (entries_no _ s.args.rows.now _ s.requires.2 (sym c.good_entries.ensures ∙ c.if-good_entries.false))
