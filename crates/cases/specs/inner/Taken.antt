-- How many bytes of a script stand for a rule and for a command.
use Rattle.std.specs.Prelude.{◌≡◌, ℕ, ◌+◌, ◌≤◌, length}
use Rattle.filter.specs.declared.rule.Rule.{Rule}
use Rattle.filter.specs.declared.rule.Rule.TheVariants.{Sweep, Chain, Pass}
use Rattle.cases.specs.declared.command.Command.{Command}
use Rattle.cases.specs.declared.command.Command.TheVariants.{Open, Set, Call, Preview, Cut, Run, Check, Report, Write, First}

-- the bytes of a rule after its opcode: a pass has its seed
abbrev pub rule_size : Rule → ℕ
rule_size Sweep = 0
rule_size Chain = 0
rule_size (Pass seed) = 8

-- `old` and `new` bytes of the script are left before and after a command is read, its opcode apart. Of a work state and a cut step the number is not
-- told: the command does not keep how many rows were given.
abbrev pub Takes : Command → ℕ → ℕ → Type 0
Takes (Open limit sheet) old new = new + 10 + length sheet.now ≡ old
Takes (Set work) old new = new ≤ old
Takes (Call rule) old new = new + rule_size rule ≡ old
Takes (Preview rule) old new = new + 1 + rule_size rule ≡ old
Takes (Cut must) old new = new ≤ old
Takes (Run budget) old new = new + 4 ≡ old
Takes (Check list) old new = new + 2 + length list.now ≡ old
Takes (Report room) old new = new + 2 ≡ old
Takes (Write room) old new = new + 2 ≡ old
Takes (First budget len) old new = new + 5 ≡ old
