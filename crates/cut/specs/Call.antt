-- The cut step by hand (W-209). It is given a work state and a table of must-drive roads, and is not in the cycle.
use Rattle.std.specs.Prelude.{not, cond, List, ℕ}
use Rattle.circuit.specs.declared.card.Answer.{Answer}
use Rattle.circuit.specs.declared.state.Work.{Work}
use Rattle.circuit.specs.Card.{card}
use Rattle.circuit.specs.State.{is_none, rows_of, bad}
use Rattle.roads.specs.declared.step.RoadVerdict.{RoadVerdict}
use Rattle.roads.specs.Cut.{cut, verdict_of, is_two_way, are_roads}
use Rattle.filter.specs.Calls.{by_hand}
use Rattle.cut.specs.declared.CutCalled.{CutCalled}

-- the given state and table, and no removals
abbrev pub uncut : Answer → Work → List ℕ → CutCalled
uncut answer w m = record { answer = answer; work = w; must = m; removed = 0 }

-- on a good state and tables that pass the checks: the hand rules for the state; with end none the must-drive table stays too
unfoldable pub cut_by_hand : Work → List ℕ → RoadVerdict → CutCalled
cut_by_hand w m c =
    let h = by_hand w (verdict_of c) in
    record { answer = h.answer; work = h.work; must = cond (is_none w.end) m c.must; removed = h.removed }

-- the cut step by hand
unfoldable pub cut_call : Work → List ℕ → CutCalled
cut_call w m =
    cond (bad w) (uncut (card 7) w m)
    (cond (not (is_two_way w.n (rows_of w))) (uncut (card 11) w m)
    (cond (not (are_roads (rows_of w) m)) (uncut (card 12) w m)
    (cut_by_hand w m (cut w.n (rows_of w) m))))
