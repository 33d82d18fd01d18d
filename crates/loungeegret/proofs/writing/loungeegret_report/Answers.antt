-- `loungeegret::writing::loungeegret_report` meets its contract: one path with too few words, one with a state.
use borrow.Author.Tests.{lt-ltb, le-ltb}
use Rattle.loungeegret.specs.Results.{on_state}
use Rattle.loungeegret.proofs.WordsLaws.{loaded_front}
use Rattle.loungeegret.proofs.writing.loungeegret_report.Goals as goal

pub returns-in_default : goal.returns-in_default
unfolding on_state
returns-in_default c = let e = lt-ltb _ _ c.in_default.ensures.cases in record { number = rw e; bytes = rw e; len = rw e }

pub returns : goal.returns
unfolding on_state
returns c =
    let e = le-ltb _ _ c.in-Some.ensures.cases.enough in
    let d = rw (c.in-Some.ensures.cases.same, loaded_front c.args.state.now) at c.put_report.ensures in
    record { number = rw (e, ← d.0) c.filled_number.ensures.0; bytes = rw e d.1; len = rw (e, ← d.0) c.filled_number.ensures.1 }
