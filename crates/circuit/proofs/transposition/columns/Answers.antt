-- `circuit::columns` meets its contract: the first n words are copied, the others empty.
use Rattle.std.proofs.Common.{ℕ, List, ◌++◌, drop, sym, ap, ◌∙◌, subst}
use Rattle.std.proofs.Math.ListN.{replicate}
use Rattle.circuit.specs.Legs.{columns}
use Rattle.circuit.specs.inner.Columns.{Corner}
use Rattle.circuit.proofs.ColumnLaws.{first_corner, first_columns}
use Rattle.circuit.proofs.CopyLaws.{first_copied}
use Rattle.circuit.proofs.transposition.columns.Goals as goal

pub transpose-requires : goal.transpose-requires
transpose-requires c =
    let a = c.args in
    let n = a.n in
    let e = ap (λ (t : List ℕ). t ++ drop n (replicate 64 0)) c.copy_from_slice.ensures.after ∙ first_copied n a.rows.now c.requires.0 c.told-rows in
    (c.requires.0, subst (Corner n) (sym e) (first_corner n a.rows.now c.requires.0 c.requires.1))

pub returns : goal.returns
returns c =
    let a = c.args in
    let n = a.n in
    let e = ap (λ (t : List ℕ). t ++ drop n (replicate 64 0)) c.copy_from_slice.ensures.after ∙ first_copied n a.rows.now c.requires.0 c.told-rows in
    c.transpose.ensures ∙ ap (columns n) e ∙ first_columns n a.rows.now c.requires.0
