-- `Network::of` meets its contract: the columns are those of the rows.
use Rattle.std.proofs.Common.{refl, sym, ap, ◌∙◌, subst, length}
use Rattle.circuit.specs.Legs.{columns}
use Rattle.circuit.specs.State.{stray}
use Rattle.circuit.specs.inner.Columns.{Corner}
use Rattle.circuit.proofs.StateLaws.{stray_corner}
use Rattle.circuit.proofs.network.Network.of.Goals as goal

pub fill-requires : goal.fill-requires
fill-requires c = (c.requires.0, c.requires.1, refl)

pub fill-requires-2 : goal.fill-requires-2
fill-requires-2 c = (c.requires.0, c.requires.1, refl)

pub transpose-requires : goal.transpose-requires
transpose-requires c =
    let a = c.args in
    (c.requires.0, subst (Corner a.n) (sym c.fill-2.ensures) (stray_corner a.n a.rows.now c.requires.0 c.requires.1 c.told-rows))

pub invariant_of-net : goal.invariant_of-net
invariant_of-net c =
    let n = c.args.n in
    record {
      most = c.requires.0;
      columned = record {
        clean = ap (stray n) c.fill.ensures ∙ c.requires.1;
        len = ap length c.fill.ensures ∙ c.told-rows;
        columns = c.transpose.ensures ∙ ap (columns n) (c.fill-2.ensures ∙ sym c.fill.ensures);
      };
    }

pub returns : goal.returns
returns c = (refl, c.fill.ensures)
