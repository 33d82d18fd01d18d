-- `filter::is_next_to_all` meets its contract.
use Rattle.filter.proofs.NextToAllLaws.{full_next}
use Rattle.filter.proofs.passing.is_next_to_all.Goals as goal

pub returns : goal.returns
returns c = λ e.
    let net = c.args.net.now in
    full_next net.n net.rows net.cols c.args.seed net.most c.requires net.columned c.full.result c.full.ensures e
