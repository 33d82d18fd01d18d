-- Previews after a list of calls (W-207): a dispatcher may agree to each.
use Rattle.std.specs.Prelude.{◌≡◌, Bool, false, cond, ◌&&◌, List, [], ◌∷◌, ℕ, eqb}
use Prim.Native.String.{String}
use Rattle.bitset.specs.Sets.{all}
use Rattle.bitset.specs.Upto.{row}
use Rattle.circuit.specs.declared.state.Work.{Work}
use Rattle.circuit.specs.Card.{card, ending, is_word}
use Rattle.circuit.specs.Legs.{leg, table_of}
use Rattle.circuit.specs.Round.{Drivable, NoneIn}
use Rattle.circuit.specs.State.{rows_of}
use Rattle.filter.specs.declared.rule.Rule.{Rule}
use Rattle.filter.specs.declared.rule.Rule.TheVariants.{Sweep, Chain, Pass}
use Rattle.filter.specs.Rule.{stray_seed}
use Rattle.preview.specs.Call.{preview_call, shows_nothing}
use Rattle.preview.specs.Claims.{shown, Previews}
use Rattle.demands.specs.Sequence.{Call, after_all, DrivesAllGiven}
use Rattle.demands.specs.Demands.{Refusal}
use Rattle.demands.specs.Examples as examples
use Rattle.demands.specs.Examples.{Leg, Start, sheet, table, listed, begun, is_number, nine_legs, ring_of_four, butterfly, chain_of_four}

-- of the list of calls cs, from the opened state w, and a rule r that is shown after it; the rounds are those of demand 3
pub record PreviewAfter (w : Work) (cs : List Call) (r : Rule) : Type 0 where
  -- the preview, and the step after it
  pub previews : Previews (after_all w cs) r
  -- no leg is shown that is drivable in the opened table
  pub undriven : (i j : ℕ) → Drivable (DrivesAllGiven w cs) w.n (rows_of w) i j → leg (shown (after_all w cs) r) i j ≡ false
  -- the end none is shown only where the opened table has no round
  pub none : (preview_call (after_all w cs) r).end ≡ ending "none" → NoneIn (DrivesAllGiven w cs) w.n (rows_of w)

-- a refused preview shows the empty table and the given end, and hands back the given state
abbrev pub PreviewRefused : Type 0
PreviewRefused = (w : Work) (r : Rule) → Refusal (preview_call w r).answer → preview_call w r ≡ shows_nothing (preview_call w r).answer w

-- after a list of calls with the end stable every preview shows the empty table, with that end; a stray seed is refused
abbrev pub PreviewStable : Work → List Call → Type 0
PreviewStable w cs =
    (r : Rule) → preview_call (after_all w cs) r ≡ shows_nothing (cond (stray_seed (after_all w cs).n r) (card 8) (card 0)) (after_all w cs)

-- ---- examples of steps that are shown first

-- the preview of the rule shows exactly these legs, and the end with the word
unfoldable pub shows : Start → Rule → List Leg → String → Bool
shows s r ls end =
    let w = begun s in
    let p = preview_call w r in
    is_number 0 p.answer && is_word end p.end && all 64 (λ i. eqb (row p.legs.rows i) (row (table_of w.n (listed ls)) i))

-- with seed 3 the level of 2 and 4 strikes 2→4, and then the level of 1, which alone joins 5 to the others, gives none
unfoldable pub only_way_in : Start
only_way_in =
    table 5 (examples.leg 1 2 ∷ examples.leg 1 5 ∷ examples.leg 2 3 ∷ examples.leg 2 4 ∷ examples.leg 3 4 ∷ examples.leg 4 1 ∷ [])

-- Each kind of step with legs to strike, none with a leg struck before and without one, and nothing to strike.
unfoldable pub previewed : Bool
previewed =
    shows (sheet nine_legs 64) Sweep (examples.leg 1 2 ∷ examples.leg 1 3 ∷ examples.leg 2 1 ∷ []) "open"
    && shows chain_of_four Chain (examples.leg 4 1 ∷ []) "open"
    && shows (sheet nine_legs 64) (Pass 4) (examples.leg 1 2 ∷ examples.leg 2 1 ∷ []) "open"
    && shows only_way_in (Pass 3) (examples.leg 2 4 ∷ []) "none"
    && shows butterfly (Pass 1) [] "none"
    && shows ring_of_four (Pass 1) [] "open"
