-- What the calls leave with a caller in another language: the number, the lent words and bytes, and what is written through pointers.
-- In a record of a call, s is the lent state and r the number; of what the call may write, x is there before it and x₁ after it.
use Rattle.std.specs.Prelude.{◌≡◌, Bool, not, cond, ◌||◌, List, ◌++◌, ℕ, eqb, ltb, length, get_or, drop}
use Rattle.bitset.specs.Sets.{digit}
use Rattle.circuit.specs.declared.card.Answer.{Answer}
use Rattle.circuit.specs.declared.state.Work.{Work}
use Rattle.sheet.specs.declared.Opened.{Opened}
use Rattle.filter.specs.declared.hand.Called.{Called}
use Rattle.filter.specs.declared.cycle.Ran.{Ran}
use Rattle.cut.specs.declared.CutCalled.{CutCalled}
use Rattle.preview.specs.declared.Previewed.{Previewed}
use Rattle.circuit.specs.declared.list.Checked.{Checked}
use Rattle.circuit.specs.declared.filled.Filled.{Filled}
use Rattle.finder.specs.declared.outcome.Sought.{Sought}
use Rattle.finder.specs.Call.{outcome_code}
use Rattle.circuit.specs.Card.{number, end_code}
use Rattle.circuit.specs.Fill.{filled}
use Rattle.writer.specs.Lent.{written}
use Rattle.loungeegret.specs.Words.{too_few, stored_in}

-- the number of a call on too few words for a state; no answer of the card has it
abbrev pub no_state : ℕ
no_state = 100

-- what a call on the lent words s makes of x: with too few words for a state it writes nothing
unfoldable pub on_state : {A : Type 0} → List ℕ → A → A → A
on_state s x x₁ = cond (too_few s) x x₁

-- the call is refused
abbrev pub refuses : Answer → Bool
refuses a = not (eqb (number a) 0)

-- the lent words after a call that hands back the work state w: a refused one leaves them as they were
unfoldable pub words_after : List ℕ → Answer → Work → List ℕ
words_after s a w = cond (refuses a) s (stored_in s w)

-- opening; a refused one leaves the blank work state
pub record OpenResult (o : Opened) (s s₁ : List ℕ) (p p₁ r : ℕ) : Type 0 where
  pub number : r ≡ on_state s no_state (number o.answer)
  pub words : s₁ ≡ on_state s s (stored_in s o.work)
  pub place : p₁ ≡ on_state s p o.at

-- a rule called by hand
pub record CallResult (c : Called) (s s₁ : List ℕ) (k k₁ r : ℕ) : Type 0 where
  pub number : r ≡ on_state s no_state (number c.answer)
  pub words : s₁ ≡ on_state s s (words_after s c.answer c.work)
  pub removed : k₁ ≡ on_state s k c.removed

-- a run
pub record RunResult (c : Ran) (s s₁ : List ℕ) (m m₁ k k₁ r : ℕ) : Type 0 where
  pub number : r ≡ on_state s no_state (number c.answer)
  pub words : s₁ ≡ on_state s s (words_after s c.answer c.work)
  pub steps : m₁ ≡ on_state s m c.steps
  pub removed : k₁ ≡ on_state s k c.removed

-- what a call on the lent words s and a lent table m makes of x: with too few words for either it writes nothing
unfoldable pub on_tables : {A : Type 0} → List ℕ → List ℕ → A → A → A
on_tables s m x x₁ = cond (too_few s || ltb (length m) 64) x x₁

-- the cut step: m is the lent table of must-drive roads, and what follows its 64 words stays
pub record CutResult (c : CutCalled) (s s₁ m m₁ : List ℕ) (k k₁ r : ℕ) : Type 0 where
  pub number : r ≡ on_tables s m no_state (number c.answer)
  pub words : s₁ ≡ on_tables s m s (words_after s c.answer c.work)
  pub must : m₁ ≡ on_tables s m m (c.must ++ drop 64 m)
  pub removed : k₁ ≡ on_tables s m k c.removed

-- the word of the end that a preview writes: a refused one writes that of the given end as it stands
unfoldable pub shown_end : List ℕ → Previewed → ℕ
shown_end s c = cond (refuses c.answer) (get_or s 68 0) (end_code c.end)

-- a preview: m is the lent table for the legs that would go, and what follows its 64 words stays; e is the word of the end
pub record PreviewResult (c : Previewed) (s m m₁ : List ℕ) (e e₁ r : ℕ) : Type 0 where
  pub number : r ≡ on_tables s m no_state (number c.answer)
  pub legs : m₁ ≡ on_tables s m m (c.legs.rows ++ drop 64 m)
  pub end : e₁ ≡ on_tables s m e (shown_end s c)

-- the list check
pub record CheckResult (c : Checked) (s : List ℕ) (y y₁ r : ℕ) : Type 0 where
  pub number : r ≡ on_state s no_state (number c.answer)
  pub yes : y₁ ≡ on_state s y (digit c.yes)

-- the search for the first round, which makes t of the bytes b of the list; o is the outcome's code and m the nodes
pub record FirstResult (c : Sought) (t s b b₁ : List ℕ) (o o₁ m m₁ r : ℕ) : Type 0 where
  pub number : r ≡ on_state s no_state (number c.answer)
  pub bytes : b₁ ≡ on_state s b t
  pub outcome : o₁ ≡ on_state s o (outcome_code c.outcome)
  pub nodes : m₁ ≡ on_state s m c.nodes

-- a call that fills a lent buffer and makes t of its bytes b: the report, and the sheet written back
pub record FillResult (c : Filled) (t s b b₁ : List ℕ) (l l₁ r : ℕ) : Type 0 where
  pub number : r ≡ on_state s no_state (number c.answer)
  pub bytes : b₁ ≡ on_state s b t
  pub len : l₁ ≡ on_state s l c.len

-- the program's text t for a sheet; no state is lent
pub record PrintResult (t b b₁ : List ℕ) (l₁ r : ℕ) : Type 0 where
  pub number : r ≡ number (filled t b).answer
  pub bytes : b₁ ≡ written t b
  pub len : l₁ ≡ (filled t b).len
