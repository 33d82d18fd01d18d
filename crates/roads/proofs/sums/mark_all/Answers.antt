-- `roads::mark_all` meets its contract. Assumes nothing.
use mathlib.Core.Path.{sym, ◌∙◌}
use Rattle.bitset.proofs.MachineLaws.{full_set_of}
use Rattle.roads.proofs.StepLaws.{all_tried, all_stopped}
use Rattle.roads.proofs.sums.mark_all.Goals as goal

pub returns-in_default : goal.returns-in_default
returns-in_default c = let e = c.in_default.ensures in all_stopped c.requires e.0 e.1

pub invariant_of-search : goal.invariant_of-search
invariant_of-search c = record {
  profile = c.requires;
  whole = c.full.ensures ∙ sym (full_set_of 64 c.args.n c.requires.most);
  others = c.difference.ensures;
  small = c.in-Some.ensures.small;
}

pub returns : goal.returns
returns c = all_tried c.requires _ c.in-Some.ensures c.try_all.ensures
