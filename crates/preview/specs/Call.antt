-- Previews (W-207): the step by hand on the same state, of which only what it would do is kept.
use Rattle.std.specs.Prelude.{ℕ}
use Rattle.circuit.specs.declared.card.Answer.{Answer}
use Rattle.circuit.specs.declared.state.Work.{Work}
use Rattle.circuit.specs.Legs.{no_legs, difference}
use Rattle.circuit.specs.State.{rows_of}
use Rattle.filter.specs.declared.rule.Rule.{Rule}
use Rattle.filter.specs.declared.rule.Rule.TheVariants.{Sweep, Chain, Pass}
use Rattle.filter.specs.Calls.{hand_call}
use Rattle.preview.specs.declared.Previewed.{Previewed}

-- the preview of a rule: the answer of the step by hand, the legs of the given table that do not stand after it, and the end after it; the given
-- state is handed back
unfoldable pub preview_call : Work → Rule → Previewed
preview_call w r =
    let c = hand_call w r in
    record { answer = c.answer; work = w; legs = record { rows = difference (rows_of w) (rows_of c.work) }; end = c.work.end }

-- of the sweep
abbrev pub sweep_preview : Work → Previewed
sweep_preview w = preview_call w Sweep

-- of the chain step
abbrev pub chain_preview : Work → Previewed
chain_preview w = preview_call w Chain

-- of the pass
abbrev pub pass_preview : Work → ℕ → Previewed
pass_preview w seed = preview_call w (Pass seed)

-- what a preview hands back where nothing would change: the empty table and the given end
abbrev pub shows_nothing : Answer → Work → Previewed
shows_nothing answer w = record { answer = answer; work = w; legs = record { rows = no_legs }; end = w.end }
