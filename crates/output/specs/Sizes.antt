-- How long the program's text is.
use Rattle.std.specs.Prelude.{ℕ}

-- The length that always suffices: `stations 64 legs 4032`, `steps 300000 removed 4032 end stable`, and the longest station lines.
abbrev pub program_most : ℕ
program_most = 11835
