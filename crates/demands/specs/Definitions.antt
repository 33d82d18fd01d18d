-- Every definition of the rules: `unfolding definitions` opens them all, for theorems that antt computes.
use Rattle.std.specs.Prelude.{ℕ}
use Rattle.bitset.specs.Sets.{bit, digit, any, all, first, count, sum, has, set_of, size, join, minus, meet}
use Rattle.bitset.specs.Upto.{upto}
use Rattle.circuit.specs.Legs.{leg, col, table_of, without, legs, neighbours}
use Rattle.circuit.specs.State.{stray_row, stray, bad}
use Rattle.circuit.specs.Check.{is_round, is_list, check_call}
use Rattle.sheet.specs.Layout.{bytes, map_of, entry_bytes, entries_bytes, bytes_of, entry_at, given}
use Rattle.sheet.specs.Open.{little, read_set, read_fixed, read_entry, read_entries, read_end, read_page, opened, open_call}
use Rattle.sheet.specs.Write.{entry_of, page_of, sheet_of}
use Rattle.filter.specs.Sweep.{stuck, next_taken, prev_taken, swept, sweep}
use Rattle.filter.specs.Chain.{compulsory, compulsories, forked, nexts, joined, looped, closes, chain}
use Rattle.separator.specs.Levels.{neighbourhood, levels_from, levels, reached, unreached, front, inner}
use Rattle.separator.specs.Components.{spread, grow, components_from, components}
use Rattle.separator.specs.Level.{led_to, joins, stands, marked, marking, marks, choose, choice, takes, passable, struck, level}
use Rattle.filter.specs.Pass.{pass_over, pass}
use Rattle.filter.specs.Rule.{says}
use Rattle.filter.specs.Calls.{gone, by_hand, hand_call, after, step, run_from, run_call}

unfoldable pub definitions : ℕ
unfolding bit digit any all first count sum has set_of size join minus meet upto leg col table_of without legs neighbours stray_row stray bad is_round is_list check_call bytes map_of entry_bytes entries_bytes bytes_of entry_at given little read_set read_fixed read_entry read_entries read_end read_page opened open_call entry_of page_of sheet_of stuck next_taken prev_taken swept sweep compulsory compulsories forked nexts joined looped closes chain neighbourhood levels_from levels reached unreached front inner spread grow components_from components led_to joins stands marked marking marks choose choice takes passable struck level pass_over pass says gone by_hand hand_call after step run_from run_call
definitions = 0
