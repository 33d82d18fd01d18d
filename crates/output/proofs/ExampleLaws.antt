-- What the program prints for the papers' sheets, by computation. Assumes nothing.
use mathlib.Core.Path.{◌≡◌, refl}
use mathlib.Core.List.{[], ◌∷◌}
use Rattle.writer.specs.Text.{ascii, digits, decimal}
use Rattle.report.specs.Lines.{legs_to, line_of, lines_from, text}
use Rattle.demands.specs.Definitions.{definitions}
use Rattle.demands.specs.Examples.{nine_legs}
use Rattle.output.specs.Program.{opened_line, steps_line, station_lines, taken_text, refused_line, opened_text, program_text}

-- the sheet of nine legs
pub nine_legs_lem : program_text nine_legs ≡ ascii "stations 6 legs 9\nsteps 16 removed 3 end stable\n1: 4\n2: 5\n3: 6\n4: 2\n5: 3\n6: 1\n"
unfolding definitions nine_legs digits decimal legs_to line_of lines_from text opened_line steps_line station_lines taken_text opened_text program_text
nine_legs_lem = refl

-- an end none: no station lines
pub ends_none : program_text (2 ∷ 4 ∷ 1 ∷ 0 ∷ []) ≡ ascii "stations 2 legs 1\nsteps 1 removed 0 end none\n"
unfolding definitions digits decimal legs_to line_of lines_from text opened_line steps_line station_lines taken_text opened_text program_text
ends_none = refl

-- a refused sheet
pub unknown_bit : program_text (3 ∷ 12 ∷ []) ≡ ascii "refused 3 at 1\n"
unfolding definitions digits decimal refused_line opened_text program_text
unknown_bit = refl
