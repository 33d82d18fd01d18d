-- What the program prints for a sheet.
use Rattle.std.specs.Prelude.{◌≡◌, cond, List, [], ◌++◌, ℕ, eqb}
use Prim.Native.String.{String}
use Rattle.writer.specs.Text.{ascii, decimal}
use Rattle.circuit.specs.declared.state.Work.{Work}
use Rattle.sheet.specs.declared.Opened.{Opened}
use Rattle.filter.specs.declared.cycle.Ran.{Ran}
use Rattle.circuit.specs.Card.{number, word}
use Rattle.circuit.specs.Legs.{legs}
use Rattle.circuit.specs.State.{is_none, rows_of}
use Rattle.sheet.specs.Open.{open_call}
use Rattle.filter.specs.Calls.{run_call}
use Rattle.filter.specs.Ends.{full_budget}
use Rattle.report.specs.Lines.{text}

-- line 1: stations and legs as opened
unfoldable pub opened_line : Work → List ℕ
opened_line w = ascii "stations " ++ decimal w.n ++ ascii " legs " ++ decimal (legs w.n (rows_of w)) ++ ascii "\n"

-- line 2: steps, legs removed, the word of the end
unfoldable pub steps_line : ℕ → ℕ → String → List ℕ
steps_line steps removed end = ascii "steps " ++ decimal steps ++ ascii " removed " ++ decimal removed ++ ascii " end " ++ ascii end ++ ascii "\n"

-- that of a run
abbrev pub ran_line : Ran → List ℕ
ran_line r = steps_line r.steps r.removed (word r.work.end)

-- the station lines, unless the end is none
unfoldable pub station_lines : Work → List ℕ
station_lines w = cond (is_none w.end) [] (text w)

-- the run of an opened state, with budget 300,000
abbrev pub pruned : Work → Ran
pruned w = run_call w full_budget

-- of an opened state: two lines, and the station lines
unfoldable pub taken_text : Work → List ℕ
taken_text w = let r = pruned w in opened_line w ++ ran_line r ++ station_lines r.work

-- of a refused sheet: one line, its number, then its place
unfoldable pub refused_line : ℕ → ℕ → List ℕ
refused_line k at = ascii "refused " ++ decimal k ++ ascii " at " ++ decimal at ++ ascii "\n"

-- of an opening
unfoldable pub opened_text : Opened → List ℕ
opened_text o =
    cond (eqb (number o.answer) 0) (taken_text o.work)
    (refused_line (number o.answer) o.at)

-- what the program prints for the bytes of a sheet, opened with limit 64
unfoldable pub program_text : List ℕ → List ℕ
program_text s = opened_text (open_call s 64)

-- What the text t of an opening can be: a refusal's line; two lines, the second with the end none; or two lines, the second with the end stable, and the station
-- lines. It never says open (W-206).
pub data Says (o : Opened) (t : List ℕ) : Type 0 where
  refused : t ≡ refused_line (number o.answer) o.at → Says o t
  none : t ≡ opened_line o.work ++ steps_line (pruned o.work).steps (pruned o.work).removed "none" → Says o t
  stable : t ≡ opened_line o.work ++ steps_line (pruned o.work).steps (pruned o.work).removed "stable" ++ text (pruned o.work).work → Says o t
