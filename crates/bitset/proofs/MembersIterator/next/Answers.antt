use Rattle.std.proofs.Common.{arith}
use Rattle.bitset.proofs.LeastLaws.{ones_clear}
use Rattle.bitset.proofs.MembersIterator.next.Goals as goal

-- the word has a member less
pub returns-clause-goes : goal.returns-clause-goes
returns-clause-goes c = record {
  on = λ f. (tt, tt, omega (arith, ones_clear 64 c.args.self.now.rest (omega arith) (omega arith)));
  keeps = tt;
  rests = λ f. tt;
}
