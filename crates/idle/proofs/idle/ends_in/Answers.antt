-- `idle::ends_in` meets its contract. Assumes nothing.
use Rattle.idle.proofs.PairLaws.{paired_part, paired_pair}
use Rattle.idle.proofs.idle.ends_in.Goals as goal

pub returns : goal.returns
returns c =
    let a = c.args in
    let tails = c.paired.ensures in
    let heads = c.paired-2.ensures in (
      paired_part a.s a.back.beyond a.ahead.beyond _ tails,
      paired_part a.s a.ahead.beyond a.back.beyond _ heads,
      λ rows cols room p ahead back.
          record {
            tail = paired_pair a.s a.back.beyond a.ahead.beyond _ tails _ _ back.led ahead.led;
            head = paired_pair a.s a.ahead.beyond a.back.beyond _ heads _ _ ahead.led back.led;
          },
    )
