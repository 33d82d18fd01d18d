-- `preview::preview` meets its contract.
use Rattle.preview.proofs.PreviewLaws.{preview_is}
use Rattle.preview.proofs.preview.Goals as goal

pub returns : goal.returns
returns c =
    preview_is c.args.work c.args.rule c.call-called.result c.difference-rows.result c.call-called.ensures c.difference-rows.ensures
