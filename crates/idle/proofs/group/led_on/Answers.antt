-- `groups::led_on` meets its contract. Assumes nothing.
use Rattle.idle.proofs.GroupLaws.{reaches_more}
use Rattle.idle.proofs.group.led_on.Goals as goal

pub returns : goal.returns
returns c =
    let a = c.args in
    λ wide p in-room in-level R. reaches_more a.room a.level R in-room in-level c.led_from-more.ensures
