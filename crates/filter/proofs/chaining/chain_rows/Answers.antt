-- `filter::chain_rows` meets its contract.
use borrow.Author.Rules.{rules}
use mathlib.Core.Path.{◌≡◌, refl, ap, ◌∙◌}
use mathlib.Core.Bool.{Bool, true, false}
use Prim.Native.Nat.{◌^◌, ◌<◌}
use native.Mathlib.Omega.{arith}
use lib.Dec.{eqb}
use lib.ListN.{length}
use mir.Syntax.{w64}
use mir.Val.{Fits}
use borrow.Author.Tests.{eqb-true}
use Rattle.bitset.proofs.BoolLaws.{and_l, and_r}
use Rattle.circuit.specs.State.{stray}
use Rattle.circuit.proofs.LegsLaws.{length_without}
use Rattle.circuit.proofs.StateLaws.{stray_row_lem, stray_without}
use Rattle.filter.specs.Chain.{chain}
use Rattle.filter.specs.inner.Steps.{RowsLeft}
use Rattle.filter.proofs.TrailLaws.{chain_idle}
use Rattle.filter.proofs.TakeLaws.{left_alone}
use Rattle.filter.proofs.ChainedLaws.{Gathered, gathered, singles_free, fork_none, legs_square, part_lt, loop_none, closed_left}
use Rattle.filter.proofs.chaining.chain_rows.Goals.{After-find_chains-met, In-Some, Start}
use Rattle.filter.proofs.chaining.chain_rows.Goals as goal

legs : (c : In-Some) → Gathered c.args.n c.args.rows.now c.in-Some.field-0 c.compulsory_legs.new.legs
legs c = let fl : Fits w64 c.in-Some.field-0.leave = search rules in
    let fe : Fits w64 c.in-Some.field-0.enter = search rules in
    let next = c.single_words-next in
    gathered c.args.n c.args.rows.now c.requires.1 c.requires.2 next.result next.ensures c.sole-sole.result c.sole-sole.ensures c.in-Some.field-0 _ c.in-Some.ensures fl.fits fe.fits

met_fits : (c : After-find_chains-met) → c.find_chains-met.result < 2 ^ 64
met_fits c = let f : Fits w64 c.find_chains-met.result = search rules in f.fits

-- where no leg goes, the rows are as they were
untouched : (c : Start) → (none : Bool) → chain c.args.n c.args.rows.now ≡ record { none = none; left = c.args.rows.now }
    → RowsLeft c.args.n (chain c.args.n c.args.rows.now) (record { none = none; struck = false }) c.args.rows.now c.args.rows.now
untouched c none e = record { table = left_alone e; clean = c.requires.2; len = c.told-rows }

pub returns-then-next-sole : goal.returns-then-next-sole
returns-then-next-sole c =
    let next = c.single_words-next in
    let x = next.result.once in
    let y = c.sole-sole.result in
    let n = c.args.n in
    let t = c.args.rows.now in
    untouched (goal.at.returns-then-next-sole c).Start false
    (chain_idle n t c.requires.1 c.requires.2 c.told-rows
    (singles_free n t c.requires.1 c.requires.2 next.result next.ensures y c.sole-sole.ensures (eqb-true x 0 (and_l (eqb x 0) (eqb y 0) c.if-next-sole.true)) (eqb-true y 0 (and_r (eqb x 0) (eqb y 0) c.if-next-sole.true))))

pub compulsory_legs-requires : goal.compulsory_legs-requires
compulsory_legs-requires c = (c.requires.1, stray_row_lem c.args.n _ c.requires.1 c.requires.2, refl)

pub returns-in_default : goal.returns-in_default
returns-in_default c =
    let next = c.single_words-next in
    untouched (goal.at.returns-in_default c).Start true
    (fork_none c.args.n c.args.rows.now c.requires.1 c.requires.2 next.result next.ensures c.sole-sole.result c.sole-sole.ensures c.in_default.ensures)

pub find_chains-met-requires : goal.find_chains-met-requires
find_chains-met-requires c =
    (c.requires.0, c.requires.1, part_lt (legs (goal.at.find_chains-met-requires c).In-Some) _, legs_square (legs (goal.at.find_chains-met-requires c).In-Some))

pub short_loop-requires : goal.short_loop-requires
short_loop-requires c =
    (omega (arith, c.requires.0), c.requires.1, part_lt (legs (goal.at.short_loop-requires c).In-Some) _, legs_square (legs (goal.at.short_loop-requires c).In-Some))

pub returns-then-short_loop : goal.returns-then-short_loop
returns-then-short_loop c =
    untouched (goal.at.returns-then-short_loop c).Start true (loop_none (legs (goal.at.returns-then-short_loop c).In-Some) _ c.find_chains-met.result (met_fits (goal.at.returns-then-short_loop c).After-find_chains-met) c.find_chains-met.ensures _ c.short_loop.ensures c.if-short_loop.true)

pub returns : goal.returns
returns c =
    let n = c.args.n in
    let left = c.strike_closing-struck.ensures.0 n c.requires.1 (part_lt (legs (goal.at.returns c).In-Some) _) c.requires.2 in
    record {
      table = record { verdict = closed_left (legs (goal.at.returns c).In-Some) _ c.find_chains-met.result (met_fits (goal.at.returns c).After-find_chains-met) c.find_chains-met.ensures _ c.short_loop.ensures c.if-short_loop.false _ left; same = c.strike_closing-struck.ensures.1 };
      clean = ap (stray n) left ∙ stray_without n c.args.rows.now _ c.requires.1 c.requires.2;
      len = ap length left ∙ length_without n c.args.rows.now _;
    }
