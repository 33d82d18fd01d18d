-- `circuit::fill` meets its contract: what is not copied is empty on both sides.
use Rattle.std.proofs.Common.{ℕ, List, ◌++◌, drop, ap₂, ◌∙◌}
use Rattle.circuit.proofs.CopyLaws.{all_copied}
use Rattle.circuit.proofs.StateLaws.{stray_corner}
use Rattle.circuit.proofs.network.fill.Goals as goal

pub returns : goal.returns
returns c =
    let n = c.args.n in
    let t = c.args.rows.now in
    ap₂ (λ (a b : List ℕ). a ++ drop n b) c.copy_from_slice.ensures.after c.requires.2 ∙ all_copied n t c.requires.0 (stray_corner n t c.requires.0 c.requires.1 c.told-rows)
