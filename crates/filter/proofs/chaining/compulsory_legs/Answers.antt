use mathlib.Core.Path.{◌≡◌, sym, ◌∙◌}
use Prim.Native.Nat.{◌<◌}
use native.Mathlib.Omega.{arith}
use lib.Count.{ones}
use lib.Dec.{ltb}
use borrow.Author.Tests.{ltb-false}
use Rattle.bitset.specs.Upto.{row}
use Rattle.bitset.proofs.BoolLaws.{or_false_l}
use Rattle.circuit.specs.inner.Tables.{Square}
use Rattle.filter.specs.inner.Chains.{compulsory_words}
use Rattle.filter.proofs.CompulsoryLaws.{words_at, words_square, words_beyond}
use Rattle.filter.proofs.EnterLaws.{gathering_start, gathering_turn, gathering_fork, gathering_end}
use Rattle.filter.proofs.chaining.compulsory_legs.Goals.{After-clashes, In-loop-i, Start}
use Rattle.filter.proofs.chaining.compulsory_legs.Goals as goal

low : (c : In-loop-i) → c.loop-i.i < c.args.n
low c = omega arith

is : (c : After-clashes) → c.compulsory_word-w.result ≡ row (compulsory_words c.args.n c.args.rows.now c.args.sole) c.loop-i.i
is c = let low : c.loop-i.i < c.args.n = omega arith in
    c.compulsory_word-w.ensures ∙ sym (words_at c.args.n c.args.rows.now c.args.sole c.requires.0 c.loop-i.i low)

square : (c : Start) → Square c.args.n (compulsory_words c.args.n c.args.rows.now c.args.sole)
square c = words_square c.args.n c.args.rows.now c.args.sole c.requires.0 c.requires.1

pub loop-i-init : goal.loop-i-init
loop-i-init c = gathering_start _ _ _ c.requires.2

pub returns-then-clashes : goal.returns-then-clashes
returns-then-clashes c =
    let v = c.loop-i in
    gathering_fork c.args.n (compulsory_words c.args.n c.args.rows.now c.args.sole) c.requires.0 (square (goal.at.returns-then-clashes c).Start) v.i v.leave v.enter v.legs v.invariant _ (low (goal.at.returns-then-clashes c).In-loop-i) (is (goal.at.returns-then-clashes c).After-clashes) (sym c.clashes.ensures ∙ c.if-clashes.true)

pub add_leg-requires : goal.add_leg-requires
add_leg-requires c =
    let w = c.compulsory_word-w.result in
    (omega (arith, low (goal.at.add_leg-requires c).In-loop-i, c.requires.0), ltb-false 1 (ones w) (or_false_l (ltb 1 (ones w)) _ (sym c.clashes.ensures ∙ c.if-clashes.false)))

pub loop-i-preserved : goal.loop-i-preserved
loop-i-preserved c =
    let v = c.loop-i in
    gathering_turn c.args.n (compulsory_words c.args.n c.args.rows.now c.args.sole) c.requires.0 (square (goal.at.loop-i-preserved c).Start) v.i v.leave v.enter v.legs v.invariant _ (low (goal.at.loop-i-preserved c).In-loop-i) (is (goal.at.loop-i-preserved c).After-clashes) (sym c.clashes.ensures ∙ c.if-clashes.false)
    _ c.insert_if-leave.ensures _ (c.add_leg.ensures (compulsory_words c.args.n c.args.rows.now c.args.sole) (sym (is (goal.at.loop-i-preserved c).After-clashes)) v.invariant.legs)

pub returns : goal.returns
returns c =
    let v = c.loop-i in
    gathering_end c.args.n (compulsory_words c.args.n c.args.rows.now c.args.sole) c.requires.0 (square (goal.at.returns c).Start) v.i v.leave v.enter v.legs v.invariant (omega arith) (words_beyond c.args.n c.args.rows.now c.args.sole c.requires.0)
