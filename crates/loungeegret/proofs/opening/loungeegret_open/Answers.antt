-- `loungeegret::opening::loungeegret_open` meets its contract: one path with too few words, one with a state. In the second e says that the words
-- are enough and d what opening hands back.
use borrow.Author.Tests.{lt-ltb, le-ltb}
use Rattle.loungeegret.specs.Results.{on_state}
use Rattle.loungeegret.proofs.WordsLaws.{stored_front}
use Rattle.loungeegret.proofs.opening.loungeegret_open.Goals as goal

pub returns-in_default : goal.returns-in_default
unfolding on_state
returns-in_default c = let e = lt-ltb _ _ c.in_default.ensures.cases in record { number = rw e; words = rw e; place = rw e }

pub returns : goal.returns
unfolding on_state
returns c =
    let e = le-ltb _ _ c.in-Some.ensures.cases.enough in
    let d = c.open-opened.ensures in
    record {
      number = rw (e, ← d) c.number.ensures;
      words = rw (e, ← d, c.store.ensures, c.in-Some.ensures.cases.same) (stored_front c.args.state.now _);
      place = rw (e, ← d);
    }
