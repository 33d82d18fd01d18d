-- `idle::leads_to_all` meets its contract. Assumes nothing.
use borrow.Author.Tests.{eqb-true}
use Rattle.idle.proofs.PairLaws.{leads_all}
use Rattle.idle.proofs.idle.leads_to_all.Goals as goal

pub returns : goal.returns
returns c =
    let a = c.args in
    λ wide p seen level reaches e.
    leads_all a.words.now a.n a.seen a.s a.led c.grown.result c.full.result c.requires c.grown.ensures c.full.ensures (eqb-true _ _ e) wide p seen level reaches
