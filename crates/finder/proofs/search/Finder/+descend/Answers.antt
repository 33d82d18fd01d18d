-- `Finder::descend` meets its contract.
use mathlib.Core.Path.{◌≡◌, refl, sym, ap, ap₂, ◌∙◌}
use mathlib.Core.Bool.{Bool, true, false, cond}
use mathlib.Core.List.{List}
use Prim.Native.Nat.{ℕ, ◌-◌, ◌*◌, ◌%◌, ◌^◌, ◌<◌}
use native.Mathlib.Omega.{arith}
use lib.Count.{count_trailing_zeros}
use borrow.Author.Tests.{eqb-true}
use Rattle.bitset.specs.declared.Members.{Members}
use Rattle.bitset.proofs.LeastLaws.{trailing_least}
use Rattle.bitset.proofs.MachineLaws.{shl_one}
use Rattle.finder.specs.declared.outcome.Outcome.TheVariants.{Found, NoRound}
use Rattle.finder.specs.Search.{leaf}
use Rattle.finder.specs.inner.Nodes.{stable_at}
use Rattle.finder.proofs.StepLaws.{node_off, node_end, node_leaf, node_children, rest_start, rest_end, rest_next, rest_stop, row_word, ready, kept_then}
use Rattle.finder.proofs.search.Finder.+descend.Goals as goal

pub returns-then-spent-clause-outcome : goal.returns-then-spent-clause-outcome
returns-then-spent-clause-outcome t c =
    let f = c.args.self.now in
    let e : f.left ≡ 0 = c.if-spent.true in
    rw e (node_off f.n f.limit c.args.undecided c.args.rows.now f.list.now)

pub returns-then-settle-clause-outcome : goal.returns-then-settle-clause-outcome
returns-then-settle-clause-outcome t c =
    let f = c.args.self.now in
    let s = c.settle.ensures.same in
    rw (s.left, s.list) (node_end f.n f.limit c.args.undecided c.args.rows.now f.list.now f.left (omega arith) _ _ c.settle.ensures.settles c.if-settle.true)

pub returns-then-try_list-clause-outcome : goal.returns-then-try_list-clause-outcome
returns-then-try_list-clause-outcome t c =
    let f = c.args.self.now in
    let s = c.settle.ensures.same in
    let y = c.try_list.ensures in
    let passes = rw (s.kept.n, s.kept.limit) at y.passes in
    let list = rw (s.kept.n, s.kept.limit, s.list) at y.list in
    let e : (leaf (stable_at f.n f.limit c.settle.new.rows)).found ≡ true = sym passes ∙ c.if-try_list.true in
    rw (y.left, s.left)
    (ap₂ (λ (x : Bool) (l : List ℕ). record { outcome = cond x Found NoRound; left = f.left - 1; list = l }) (sym e) list
    ∙ node_leaf f.n f.limit c.args.undecided c.args.rows.now f.list.now f.left (omega arith) _ _ c.settle.ensures.settles c.if-settle.false c.if-undecided-eq0.true)

pub returns-then-undecided-eq0-clause-outcome : goal.returns-then-undecided-eq0-clause-outcome
returns-then-undecided-eq0-clause-outcome t c =
    let f = c.args.self.now in
    let s = c.settle.ensures.same in
    let y = c.try_list.ensures in
    let passes = rw (s.kept.n, s.kept.limit) at y.passes in
    let list = rw (s.kept.n, s.kept.limit, s.list) at y.list in
    let e : (leaf (stable_at f.n f.limit c.settle.new.rows)).found ≡ false = sym passes ∙ c.if-try_list.false in
    rw (y.left, s.left)
    (ap₂ (λ (x : Bool) (l : List ℕ). record { outcome = cond x Found NoRound; left = f.left - 1; list = l }) (sym e) list
    ∙ node_leaf f.n f.limit c.args.undecided c.args.rows.now f.list.now f.left (omega arith) _ _ c.settle.ensures.settles c.if-settle.false c.if-undecided-eq0.true)

pub loop-k-init : goal.loop-k-init
loop-k-init t c =
    let f = c.args.self.now in
    let s = c.settle.ensures.same in
    let p = c.requires in
    let items = ap (λ (m : Members). m.rest) c.into_iter-k-iterator.ensures.into_iter_gives ∙ c.of-k-items.ensures in
    record {
      same = record { n = s.kept.n; limit = s.kept.limit; same_reference = s.kept.same_reference };
      rest = rw (items, s.kept.n, s.left, s.list)
          (rest_start _ _ _ _ _ _ _ _ (row_word f.n f.limit c.args.rows.now _ p.0 _ c.settle.ensures.settles c.if-settle.false (f.n - c.args.undecided) (omega (arith, p.2))));
    }

-- the word of the child's row
one : (r k : ℕ) → k < 64 → k ≡ count_trailing_zeros 64 r → (1 * 2 ^ k) % 2 ^ 64 ≡ 2 ^ count_trailing_zeros 64 r
one r k below e = shl_one 64 k below ∙ ap (λ (j : ℕ). 2 ^ j) e

pub descend-outcome-requires : goal.descend-outcome-requires
descend-outcome-requires t c =
    let f = c.args.self.now in
    let p = c.requires in
    let l = c.loop-k in
    let step = c.in-Some.ensures.steps in
    let r = l.k-iterator.rest in
    let least = trailing_least 64 r step.nonempty l.invariant.rest.word in
    let low : f.n - c.args.undecided < f.n = omega (arith, p.2) in
    let x =
    ready f.n f.limit c.args.rows.now _ p.0 _ c.settle.ensures.settles c.if-settle.false _ low (count_trailing_zeros 64 r) (l.invariant.rest.among _ least.member)
    c.settle.new.rows _ refl (one r _ step.below step.least)
    in
    rw (l.invariant.same.n, l.invariant.same.limit, c.settle.ensures.same.kept.n) (omega arith, (x.0, (λ q. x.1 (eqb-true _ _ q)), omega (arith, p.2)))

pub loop-k-preserved : goal.loop-k-preserved
loop-k-preserved t c =
    let l = c.loop-k.invariant in
    let y = c.descend-outcome.ensures in
    let step = c.in-Some.ensures.steps in
    let found = rw (l.same.n, l.same.limit, c.settle.ensures.same.kept.n) at y.outcome in
    record {
      same = kept_then l.same y.same;
      rest = rw step.others
          (rest_next _ _ _ _ _ _ _ _ _ _ _ l.rest step.nonempty _ _ refl (one _ _ step.below step.least) _ found (sym c.is_no_round.ensures ∙ c.if-not-is_no_round.false));
    }

pub returns-then-not-is_no_round-clause-outcome : goal.returns-then-not-is_no_round-clause-outcome
returns-then-not-is_no_round-clause-outcome t c =
    let f = c.args.self.now in
    let l = c.loop-k.invariant in
    let step = c.in-Some.ensures.steps in
    let found = rw (l.same.n, l.same.limit, c.settle.ensures.same.kept.n) at c.descend-outcome.ensures.outcome in
    rest_stop _ _ _ _ _ _ _ _ _ _ _ l.rest step.nonempty _ _ refl (one _ _ step.below step.least) _ found (sym c.is_no_round.ensures ∙ c.if-not-is_no_round.true)
    ∙ node_children f.n f.limit c.args.undecided c.args.rows.now f.list.now f.left (omega arith) _ _ c.settle.ensures.settles c.if-settle.false (omega arith)

pub returns-clause-outcome : goal.returns-clause-outcome
returns-clause-outcome t c =
    let f = c.args.self.now in
    rest_end _ _ _ _ _ _ _ _ _ _ _ c.loop-k.invariant.rest c.in-None.ensures.steps.0
    ∙ node_children f.n f.limit c.args.undecided c.args.rows.now f.list.now f.left (omega arith) _ _ c.settle.ensures.settles c.if-settle.false (omega arith)
