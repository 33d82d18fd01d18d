-- A preview and then the step, on the same lent words (W-207).
use Rattle.std.specs.Prelude.{◌≡◌, not, ◌&&◌, List, ℕ, ◌<◌, get_or}
use Rattle.circuit.specs.Legs.{leg}
use Rattle.filter.specs.declared.rule.Rule.{Rule}
use Rattle.preview.specs.Call.{preview_call}
use Rattle.preview.specs.Claims.{shown}
use Rattle.demands.specs.Sequence.{calling}
use Rattle.loungeegret.specs.Words.{loaded}
use Rattle.loungeegret.specs.Results.{shown_end}
use Rattle.loungeegret.specs.Sequence.{words_handed}

-- of words s that suffice for a state, whatever they say: a preview leaves them, and the step, taken or refused,
pub record PreviewWords (s : List ℕ) (r : Rule) : Type 0 where
  -- then takes exactly the previewed legs from the first 64 words
  pub rows : (i j : ℕ) → i < 64 → j < 64 → leg (words_handed s (calling r)) i j ≡ leg s i j && not (leg (shown (loaded s) r) i j)
  -- and leaves the word of the end that the preview wrote
  pub end : get_or (words_handed s (calling r)) 68 0 ≡ shown_end s (preview_call (loaded s) r)
