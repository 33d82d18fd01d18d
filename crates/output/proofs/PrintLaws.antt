-- The texts as the writers put them together. Assumes nothing.
use Rattle.std.proofs.Common.{codes}
use mathlib.Core.Path.{◌≡◌, refl, sym, ap, ap₂, ◌∙◌}
use mathlib.Core.Logic.{inl, inr, ⊎_elim}
use mathlib.Core.Bool.{true, false}
use mathlib.Core.List.{List, [], ◌++◌, append-nil}
use Prim.Native.Nat.{ℕ, ◌+◌, ◌≤◌, zero-le}
use Prim.Native.String.{String}
use native.Mathlib.Omega.{arith}
use lib.Count.{ones}
use lib.Dec.{eqb}
use lib.ListN.{length, length-append}
use borrow.Author.Tests.{eq-eqb, ne_eqb, eqb-true}
use Rattle.bitset.proofs.BoolLaws.{cases, cond_true, cond_false, cond_elim}
use Rattle.bitset.specs.Sets.{sum}
use Rattle.bitset.specs.Upto.{row}
use Rattle.writer.specs.Text.{ascii, decimal}
use Rattle.circuit.specs.declared.state.Work.{Work}
use Rattle.circuit.specs.declared.card.Answer.TheVariants.{Taken}
use Rattle.circuit.specs.declared.card.End.{End}
use Rattle.circuit.specs.declared.card.End.TheVariants.{Open, Stable, None}
use Rattle.circuit.specs.Card.{number, word}
use Rattle.circuit.specs.State.{is_none, rows_of, Good}
use Rattle.circuit.proofs.CardLaws.{number_one}
use Rattle.circuit.proofs.StateLaws.{legs_ones}
use Rattle.circuit.specs.Round.{All}
use Rattle.sheet.specs.declared.Opened.{Opened}
use Rattle.sheet.specs.Open.{open_call}
use Rattle.sheet.proofs.GrammarLaws.{opened_good}
use Rattle.filter.specs.declared.cycle.Ran.{Ran}
use Rattle.filter.specs.Calls.{run_call}
use Rattle.filter.specs.Ends.{Ended, full_budget}
use Rattle.filter.proofs.CallLaws.{run_call_leads}
use Rattle.filter.proofs.CeilingLaws.{run_enough}
use Rattle.report.specs.Lines.{lines_from, text}
use Rattle.output.specs.Program.{opened_line, steps_line, ran_line, station_lines, pruned, taken_text, refused_line, opened_text, program_text, Says, refused, none, stable}
use Rattle.output.specs.inner.Prints.{shown}

-- the word of an end
pub word_codes : (e : End) → codes (word e) ≡ ascii (word e)
word_codes Open = refl
word_codes Stable = refl
word_codes None = refl

-- line 1: the legs by the bits that are set
abbrev pub opened_fields : Work → ℕ → List ℕ
opened_fields w k = ascii "stations " ++ decimal w.n ++ ascii " legs " ++ decimal k

pub opened_line_lem : (w : Work) → Good w → (k : ℕ) → k ≡ sum 64 (λ i. ones (row (rows_of w) i)) → opened_fields w k ++ ascii "\n" ≡ opened_line w
unfolding opened_line
opened_line_lem w g k e =
    ap (λ (x : ℕ). ascii "stations " ++ decimal w.n ++ ascii " legs " ++ decimal x ++ ascii "\n") (e ∙ sym (legs_ones w.n (rows_of w) g.most g.table))

-- line 2: the two numbers, and the end
abbrev pub ran_fields : Ran → List ℕ
ran_fields r = ascii "steps " ++ decimal r.steps ++ ascii " removed " ++ decimal r.removed

pub ran_line_lem : (r : Ran) → ran_fields r ++ ascii " end " ++ ascii (word r.work.end) ++ ascii "\n" ≡ ran_line r
unfolding steps_line
ran_line_lem r = refl

pub ran_size : (r : Ran) → length (ran_line r) ≡ length (ran_fields r) + length (ascii (word r.work.end)) + 6
ran_size r = ap length (sym (ran_line_lem r)) ∙ three (ran_fields r) (ascii " end ") (ascii (word r.work.end)) (ascii "\n") (omega arith) (omega arith)
  where
    three : (a b c d : List ℕ) → length b ≡ 5 → length d ≡ 1 → length (a ++ b ++ c ++ d) ≡ length a + length c + 6
    three a b c d p q = omega (arith, length-append (a ++ b ++ c) d, length-append (a ++ b) c, length-append a b)

shown_lines : (w : Work) → lines_from (shown w) 0 (rows_of w) ≡ station_lines w
unfolding station_lines text lines_from
shown_lines w = ⊎_elim (λ (e : is_none w.end ≡ true). rw e) (λ (e : is_none w.end ≡ false). rw e) (cases (is_none w.end))

pub shown_most : (w : Work) (budget : ℕ) → Good w → shown (run_call w budget).work ≤ 64
shown_most w budget g =
    let v : Work = (run_call w budget).work in
    let same : v.n ≡ w.n = (run_call_leads All w budget).stations in
    cond_elim (λ (k : ℕ). k ≤ 64) (is_none v.end) 0 v.n (λ _. zero-le) (λ _. omega (arith, g.most))

-- the text of an opened state that has run
pub taken_text_lem : (w : Work) (r : Ran) → r ≡ run_call w full_budget → opened_line w ++ ran_line r ++ lines_from (shown r.work) 0 (rows_of r.work) ≡ taken_text w
unfolding taken_text
taken_text_lem w r e = rw (e, shown_lines (run_call w full_budget).work)

module _ (o : Opened) where
  pub opened_taken : number o.answer ≡ 0 → taken_text o.work ≡ opened_text o
  unfolding opened_text
  opened_taken e = sym (cond_true _ _ (eq-eqb (number o.answer) 0 e))

  pub opened_refused : (number o.answer ≡ 0 → ⊥) → refused_line (number o.answer) o.at ≡ opened_text o
  unfolding opened_text
  opened_refused e = sym (cond_false (taken_text o.work) _ (ne_eqb (number o.answer) 0 e))

-- the state of a taken sheet is good
pub taken_good : (s : List ℕ) → number (open_call s 64).answer ≡ 0 → Good (open_call s 64).work
taken_good s e = opened_good s 64 (number_one (open_call s 64).answer Taken e)

-- ---- no text says open

module _ (o : Opened) (e : number o.answer ≡ 0) where
  abbrev r : Ran
  r = pruned o.work

  -- the text of a taken sheet, by the word of the end and the lines that follow
  with_end : (end : String) (lines : List ℕ) → word r.work.end ≡ end → station_lines r.work ≡ lines
      → opened_text o ≡ opened_line o.work ++ steps_line r.steps r.removed end ++ lines
  unfolding taken_text
  with_end end lines p q = sym (opened_taken o e) ∙ ap₂ (λ (x : String) (y : List ℕ). opened_line o.work ++ steps_line r.steps r.removed x ++ y) p q

  ended_says : Ended r.work → Says o (opened_text o)
  unfolding station_lines
  ended_says (inl h) = stable (with_end "stable" (text r.work) (ap word h) (cond_false [] (text r.work) (ap is_none h)))
  ended_says (inr h) = none (with_end "none" [] (ap word h) (cond_true [] (text r.work) (ap is_none h)) ∙ append-nil _)

pub never_open : (s : List ℕ) → Says (open_call s 64) (program_text s)
unfolding program_text opened_text
never_open s =
    let o = open_call s 64 in
    ⊎_elim (λ e. let zero = eqb-true (number o.answer) 0 e in ended_says o zero (run_enough o.work (taken_good s zero) full_budget (omega arith)))
    (λ e. refused (cond_false (taken_text o.work) (refused_line (number o.answer) o.at) e)) (cases (eqb (number o.answer) 0))
