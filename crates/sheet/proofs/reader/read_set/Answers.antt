-- `sheet::read_set` meets its contract. Assumes nothing.
use mathlib.Core.Path.{◌≡◌, sym, ap, ◌∙◌}
use Prim.Native.Nat.{◌-◌, ◌^◌}
use native.Mathlib.Omega.{arith}
use lib.ListN.{length, drop, length-drop}
use lib.Pow.{pow_pos}
use Rattle.bitset.proofs.MachineLaws.{full_set_of}
use Rattle.sheet.specs.Open.{little}
use Rattle.sheet.proofs.ReaderLaws.{rest_of, word_read, set_absent, set_cut, set_stray, set_whole}
use Rattle.sheet.proofs.reader.read_set.Goals.{After-full, After-from_le_bytes-set}
use Rattle.sheet.proofs.reader.read_set.Goals as goal

-- the number that the 8 bytes are
value : (c : After-from_le_bytes-set) → c.from_le_bytes-set.result ≡ little 8 (drop c.args.at c.args.part.now)
value c = c.from_le_bytes-set.ensures ∙ word_read c.in-Some.ensures.cases ∙ ap (little 8) (rest_of c.args.at c.args.part.now)

-- the largest set
most : (c : After-full) → c.full.result ≡ 2 ^ c.args.n - 1
most c = c.full.ensures ∙ sym (full_set_of 64 c.args.n c.requires.1)

pub returns-then-not-present : goal.returns-then-not-present
returns-then-not-present c =
    let a = c.args in
    rw c.if-not-present.true (set_absent a.n a.at a.part.now c.requires.0)

pub returns-in_default : goal.returns-in_default
returns-in_default c =
    let a = c.args in
    let size = ap length (rest_of a.at a.part.now) in
    rw c.if-not-present.false (set_cut a.n a.at a.part.now c.requires.0 (omega (arith, c.in_default.ensures.cases, length-drop a.at a.part.now)))

pub returns-then-full-set : goal.returns-then-full-set
returns-then-full-set c =
    let a = c.args in
    let size = ap length (rest_of a.at a.part.now) in
    let v = value (goal.at.returns-then-full-set c).After-from_le_bytes-set in
    let f = most (goal.at.returns-then-full-set c).After-full in
    rw c.if-not-present.false
    (set_stray a.n a.at a.part.now c.requires.0 (omega (arith, c.in-Some.ensures.cases.enough, length-drop a.at a.part.now)) (omega (arith, c.if-full-set.true)))

pub returns : goal.returns
returns c =
    let a = c.args in
    let size = ap length (rest_of a.at a.part.now) in
    let v = value (goal.at.returns c).After-from_le_bytes-set in
    let f = most (goal.at.returns c).After-full in
    rw (c.if-not-present.false, v)
    (set_whole a.n a.at a.part.now c.requires.0 c.requires.1 (omega (arith, c.in-Some.ensures.cases.enough, length-drop a.at a.part.now))
    (omega (arith, c.if-full-set.false, pow_pos a.n)))
