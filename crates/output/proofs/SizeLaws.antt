-- How long the program's text is, and that the first 1,154 bytes of the input decide it. Assumes nothing.
use mathlib.Core.Path.{◌≡◌, ap}
use mathlib.Core.List.{List, [], ◌++◌}
use Prim.Native.Nat.{ℕ, ◌^◌, ◌≤◌, ◌<◌, zero-le}
use native.Mathlib.Omega.{arith}
use lib.Dec.{eqb}
use lib.ListN.{length, take, length-append, length-take}
use borrow.Author.Tests.{eqb-true}
use Rattle.bitset.proofs.BoolLaws.{cond_elim}
use Rattle.writer.specs.Text.{ascii, decimal}
use Rattle.writer.proofs.NumberLaws.{decimal_length}
use Rattle.circuit.specs.declared.card.End.{End}
use Rattle.circuit.specs.declared.card.End.TheVariants.{Open, Stable, None}
use Rattle.circuit.specs.declared.state.Work.{Work}
use Rattle.circuit.specs.Card.{number, word}
use Rattle.circuit.specs.Legs.{legs}
use Rattle.circuit.specs.State.{is_none, rows_of, Good}
use Rattle.circuit.proofs.CardLaws.{number_most}
use Rattle.circuit.proofs.StateLaws.{good_legs}
use Rattle.circuit.specs.Round.{All}
use Rattle.sheet.specs.declared.Opened.{Opened}
use Rattle.sheet.specs.Layout.{Page}
use Rattle.sheet.specs.Open.{Got, got, fault, read_page, opened, open_call}
use Rattle.sheet.proofs.SizeLaws.{first_bytes_suffice}
use Rattle.filter.specs.Calls.{run_call}
use Rattle.filter.specs.Ends.{full_budget}
use Rattle.filter.proofs.CallLaws.{run_call_leads}
use Rattle.report.specs.Lines.{text}
use Rattle.report.proofs.SizeLaws.{text_bound}
use Rattle.filter.proofs.RemovalLaws.{run_removed}
use Rattle.demands.proofs.CountLaws.{steps_most}
use Rattle.output.specs.Program.{opened_line, steps_line, ran_line, station_lines, taken_text, refused_line, opened_text, program_text}
use Rattle.output.specs.Sizes.{program_most}
use Rattle.output.proofs.PrintLaws.{taken_good}

-- The first 1,154 bytes decide what is printed.
pub first_bytes_print : (s : List ℕ) → program_text (take 1154 s) ≡ program_text s
unfolding program_text
first_bytes_print s = ap opened_text (first_bytes_suffice s 64)

-- ---- a taken sheet

pub opened_line_most : (w : Work) → Good w → length (opened_line w) ≤ 22
unfolding opened_line
opened_line_most w g =
    let n = decimal_length 1 w.n (omega (arith, g.most)) in
    let l = decimal_length 3 (legs w.n (rows_of w)) (omega (arith, good_legs w g)) in
    simp length-append (omega arith)

word_most : (e : End) → length (ascii (word e)) ≤ 6
word_most Open = omega arith
word_most Stable = omega arith
word_most None = omega arith

pub ran_line_most : (w : Work) → Good w → length (ran_line (run_call w full_budget)) ≤ 37
unfolding steps_line
ran_line_most w g =
    let r = run_call w full_budget in
    let steps = decimal_length 5 r.steps (omega (arith, steps_most w full_budget)) in
    let removed = decimal_length 3 r.removed (omega (arith, run_removed w full_budget, good_legs w g)) in
    let end = word_most r.work.end in
    simp length-append (omega arith)

station_lines_most : (w : Work) → Good w → length (station_lines w) ≤ 11776
unfolding station_lines
station_lines_most w g = cond_elim (λ (l : List ℕ). length l ≤ 11776) (is_none w.end) [] (text w) (λ _. zero-le) (λ _. text_bound w g)

taken_most : (w : Work) → Good w → length (taken_text w) ≤ program_most
unfolding taken_text
taken_most w g =
    let one = opened_line_most w g in
    let two = ran_line_most w g in
    let lines = station_lines_most (run_call w full_budget).work ((run_call_leads All w full_budget).keeps g) in
    simp length-append (omega arith)

-- ---- a refused sheet

-- the place is one in the sheet, so by its first bytes one of at most four digits
place_within : (s : List ℕ) → (open_call s 64).at ≤ length s
unfolding open_call opened
place_within s = go (read_page s)
  where
    go : (g : Got Page) → (opened (length s) 64 g).at ≤ length s
    go (got p r) = zero-le
    go (fault c r) = omega arith

place_most : (s : List ℕ) → (open_call s 64).at ≤ 1154
place_most s = omega (arith, place_within (take 1154 s), ap (λ (o : Opened). o.at) (first_bytes_suffice s 64), length-take 1154 s)

refused_most : (k at : ℕ) → k ≤ 99 → at ≤ 1154 → length (refused_line k at) ≤ 19
unfolding refused_line
refused_most k at a b =
    let number = decimal_length 1 k (omega arith) in
    let place = decimal_length 3 at (omega arith) in
    simp length-append (omega arith)

-- any number at any place
pub refused_fits : (k at : ℕ) → k < 2 ^ 64 → at < 2 ^ 64 → length (ascii "refused " ++ decimal k ++ ascii " at " ++ decimal at) ≤ 52
refused_fits k at a b =
    let number = decimal_length 19 k (omega arith) in
    let place = decimal_length 19 at (omega arith) in
    simp length-append (omega arith)

-- ---- both

-- No text is longer.
pub program_most_lem : (s : List ℕ) → length (program_text s) ≤ program_most
unfolding program_text opened_text
program_most_lem s =
    let o : Opened = open_call s 64 in
    cond_elim (λ (l : List ℕ). length l ≤ program_most) (eqb (number o.answer) 0) (taken_text o.work) (refused_line (number o.answer) o.at)
    (λ e. taken_most o.work (taken_good s (eqb-true (number o.answer) 0 e)))
    (λ _. omega (arith, refused_most (number o.answer) o.at (number_most o.answer) (place_most s)))
