-- `filter::sweep_rows` meets its contract.
use borrow.Author.Rules.{rules}
use mathlib.Core.Path.{◌≡◌, sym, ap, ◌∙◌}
use mathlib.Core.Bool.{true, false, not, ◌||◌}
use mathlib.Core.List.{List}
use Prim.Native.Nat.{ℕ, ◌^◌, ◌<◌}
use lib.Dec.{eqb}
use lib.ListN.{length}
use mir.Syntax.{w64}
use mir.Val.{Fits}
use borrow.Author.Tests.{eqb-true}
use Rattle.bitset.proofs.BoolLaws.{and_l, and_r}
use Rattle.bitset.proofs.UptoLaws.{length_upto}
use Rattle.circuit.specs.declared.verdict.Verdict.{Verdict}
use Rattle.circuit.specs.State.{stray}
use Rattle.circuit.specs.Verdict.{says_none, leaves}
use Rattle.filter.specs.Sweep.{swept, sweep}
use Rattle.filter.proofs.SweepLaws.{sweep_sound}
use Rattle.filter.proofs.TakeLaws.{left_alone}
use Rattle.filter.proofs.SweptLaws.{swept_row, swept_rows, swept_same, sweep_none, sweep_left}
use Rattle.filter.proofs.sweeping.sweep_rows.Goals.{After-full}
use Rattle.filter.proofs.sweeping.sweep_rows.Goals as goal

reached_fits : (c : After-full) → c.single_words-next.result.reached < 2 ^ 64
reached_fits c = let f : Fits w64 c.single_words-next.result.reached = search rules in f.fits

none : (c : After-full) → (let next = c.single_words-next.result in next.empty || not (eqb next.reached c.full.result)) ≡ true → sweep c.args.n c.args.rows.now ≡ says_none c.args.rows.now
none c e = let next = c.single_words-next in
    sweep_none c.args.n c.args.rows.now c.requires.0 c.requires.1 next.result next.ensures (reached_fits c) c.full.result c.full.ensures e

left : (c : After-full) → (let next = c.single_words-next.result in next.empty || not (eqb next.reached c.full.result)) ≡ false → (rows : List ℕ) → rows ≡ swept c.args.n c.args.rows.now → sweep c.args.n c.args.rows.now ≡ leaves rows
left c e = let next = c.single_words-next in
    sweep_left c.args.n c.args.rows.now c.requires.0 c.requires.1 next.result next.ensures (reached_fits c) c.full.result c.full.ensures e

pub returns-then-next-full : goal.returns-then-next-full
returns-then-next-full c =
    record { table = left_alone (none (goal.at.returns-then-next-full c).After-full c.if-next-full.true); clean = c.requires.1; len = c.told-rows }

pub returns-then-next-sole : goal.returns-then-next-sole
returns-then-next-sole c =
    let next = c.single_words-next in
    let x = next.result.once in
    let y = c.sole-sole.result in
    record {
      table = left_alone (left (goal.at.returns-then-next-sole c).After-full c.if-next-full.false _ (sym (swept_same c.args.n c.args.rows.now c.requires.0 c.requires.1 next.result next.ensures y c.sole-sole.ensures
          (eqb-true x 0 (and_l (eqb x 0) (eqb y 0) c.if-next-sole.true)) (eqb-true y 0 (and_r (eqb x 0) (eqb y 0) c.if-next-sole.true)) c.told-rows)));
      clean = c.requires.1;
      len = c.told-rows;
    }

pub sweep_words-struck-requires : goal.sweep_words-struck-requires
sweep_words-struck-requires c =
    (c.requires.0, c.requires.1, c.single_words-next.ensures, c.sole-sole.ensures)

pub returns : goal.returns
returns c =
    let n = c.args.n in
    let t = c.args.rows.now in
    let is = c.sweep_words-struck.ensures.0 in
    let v = left (goal.at.returns c).After-full c.if-next-full.false _ is in
    record {
      table = record { verdict = v; same = c.sweep_words-struck.ensures.1 };
      clean = ap (λ (v : Verdict). stray n v.left) (sym v) ∙ (sweep_sound n t c.requires.0).clean c.requires.1;
      len = ap length (is ∙ sym (swept_rows n t)) ∙ length_upto 64 (swept_row n t);
    }
