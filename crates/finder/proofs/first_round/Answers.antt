-- `finder::first_round` meets its contract.
use borrow.Author.Rules.{rules}
use mathlib.Core.Path.{◌≡◌, sym, ap, ◌∙◌}
use mathlib.Core.Bool.{false}
use native.Mathlib.Omega.{arith}
use lib.ListN.{length}
use Rattle.bitset.proofs.BoolLaws.{clash}
use Rattle.circuit.specs.State.{bad, rows_of}
use Rattle.circuit.proofs.StateLaws.{good}
use Rattle.finder.specs.inner.Parts.{Within}
use Rattle.finder.proofs.NodeLaws.{root_begun}
use Rattle.finder.proofs.CallLaws.{Answered, call_bad, call_long, call_code}
use Rattle.finder.proofs.first_round.Goals as goal

pub returns-then-is_bad : goal.returns-then-is_bad
returns-then-is_bad c =
    let a = c.args in
    let t = call_bad a.work a.budget a.list.now (sym c.is_bad.ensures ∙ c.if-is_bad.true) in
    (c.refused.ensures ∙ sym (ap (λ (x : Answered). x.sought) t), sym (ap (λ (x : Answered). x.list) t))

pub returns-then-list-work : goal.returns-then-list-work
returns-then-list-work c =
    let a = c.args in
    let t = call_long a.work a.budget a.list.now (sym c.is_bad.ensures ∙ c.if-is_bad.false) c.if-list-work.true in
    (c.refused-then-list-work.ensures ∙ sym (ap (λ (x : Answered). x.sought) t), sym (ap (λ (x : Answered). x.list) t))

pub invariant_of-finder : goal.invariant_of-finder
invariant_of-finder c =
    let o : bad c.args.work ≡ false = sym c.is_bad.ensures ∙ c.if-is_bad.false in
    record { most = (good c.args.work o).most; long = c.if-list-work.false }

pub descend-outcome-requires : goal.descend-outcome-requires
descend-outcome-requires c =
    let w = c.args.work in
    let o : bad w ≡ false = sym c.is_bad.ensures ∙ c.if-is_bad.false in
    let long : length (rows_of w) ≡ 64 = search rules in
    (root_begun w (good w o) long, (λ q. clash (sym q)), omega arith)

pub overflow_sub-result : goal.overflow_sub-result
overflow_sub-result c = let e = ap (λ (x : Within). x.left) c.descend-outcome.ensures.outcome in omega (arith, e)

pub returns : goal.returns
returns c =
    let a = c.args in
    let o : bad a.work ≡ false = sym c.is_bad.ensures ∙ c.if-is_bad.false in
    let t = call_code a.work a.budget a.list.now _ o c.if-list-work.false c.descend-outcome.ensures.outcome in
    (ap (λ (x : Answered). x.sought) t, search rules ∙ ap (λ (x : Answered). x.list) t)
