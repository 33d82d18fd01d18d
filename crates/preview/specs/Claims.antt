-- What W-207 says of a preview and the step after it.
use Rattle.std.specs.Prelude.{◌≡◌, false, not, ◌&&◌, List, ℕ, ◌<◌}
use Rattle.circuit.specs.declared.state.Work.{Work}
use Rattle.circuit.specs.Card.{card, ending}
use Rattle.circuit.specs.Legs.{leg, legs, Subtable}
use Rattle.circuit.specs.Round.{RoundOf, All, NoneIn}
use Rattle.circuit.specs.State.{rows_of}
use Rattle.filter.specs.declared.rule.Rule.{Rule}
use Rattle.filter.specs.declared.hand.Called.{Called}
use Rattle.filter.specs.Calls.{hand_call}
use Rattle.preview.specs.Call.{preview_call, shows_nothing}

-- the previewed legs
abbrev pub shown : Work → Rule → List ℕ
shown w r = (preview_call w r).legs.rows

-- the step by hand on the state that the preview handed back
abbrev pub then_called : Work → Rule → Called
then_called w r = hand_call (preview_call w r).work r

-- of any work state and any rule, taken or refused
pub record Previews (w : Work) (r : Rule) : Type 0 where
  -- the state is handed back as it was given, and a second preview is equal
  pub given : (preview_call w r).work ≡ w
  pub again : preview_call (preview_call w r).work r ≡ preview_call w r
  -- the step then gives the same answer, removes exactly the previewed legs, as many as they are, and ends as said
  pub answer : (then_called w r).answer ≡ (preview_call w r).answer
  pub strikes : (i j : ℕ) → i < 64 → j < 64 → leg (rows_of (then_called w r).work) i j ≡ leg (rows_of w) i j && not (leg (shown w r) i j)
  pub stood : Subtable (shown w r) (rows_of w)
  pub removed : (then_called w r).removed ≡ legs w.n (shown w r)
  pub ends : (then_called w r).work.end ≡ (preview_call w r).end
  -- a refusal shows the empty table and the given end
  pub refused : ((preview_call w r).answer ≡ card 0 → ⊥) → preview_call w r ≡ shows_nothing (preview_call w r).answer w
  -- no round drives a previewed leg, and none is shown only where it was the end or there is no round
  pub undriven : (h : ℕ → ℕ) → RoundOf w.n (rows_of w) h → (i : ℕ) → i < w.n → leg (shown w r) i (h i) ≡ false
  pub none : (w.end ≡ ending "none" → ⊥) → (preview_call w r).end ≡ ending "none" → NoneIn All w.n (rows_of w)
