-- `Finder::try_list` meets its contract.
use mathlib.Core.Path.{◌≡◌, refl, sym, ap, ◌∙◌}
use mathlib.Core.Bool.{false}
use mathlib.Core.List.{List}
use Prim.Native.Nat.{ℕ}
use native.Mathlib.Omega.{arith}
use lib.ListN.{length-take}
use Rattle.circuit.specs.declared.card.End.TheVariants.{Stable}
use Rattle.circuit.specs.declared.list.Checked.{Checked}
use Rattle.circuit.specs.Check.{check_call}
use Rattle.finder.specs.Search.{list_in}
use Rattle.finder.specs.inner.Nodes.{stable_at}
use Rattle.finder.specs.inner.Finders.{stable_of}
use Rattle.finder.proofs.SearchLaws.{leaf_yes, leaf_no}
use Rattle.finder.proofs.search.Finder.try_list.Goals as goal

-- the list that was written is that of the node's state
listed : (n m : ℕ) (t s : List ℕ) → s ≡ list_in m t → m ≡ n → s ≡ list_in n t
listed n m t s e l = e ∙ ap (λ (k : ℕ). list_in k t) l

-- so the list check reads it
checked : (n limit : ℕ) (t s : List ℕ) (r : Checked) → s ≡ list_in n t → r ≡ check_call (stable_at n limit t) s → (check_call (stable_at n limit t) (list_in n t)).yes ≡ r.yes
checked n limit t s r e q = sym (ap (λ (x : Checked). x.yes) q ∙ ap (λ (l : List ℕ). (check_call (stable_at n limit t) l).yes) e)

pub returns-then-checked-clause-passes : goal.returns-then-checked-clause-passes
returns-then-checked-clause-passes c =
    let f = c.args.self.now in
    let e = listed f.n _ _ _ c.write_list.ensures (simp length-take (omega arith)) in
    let y = checked f.n f.limit _ _ _ e (c.check_list_in-checked.ensures false Stable) ∙ c.if-checked.true in
    rw (leaf_yes (stable_of f c.args.rows.now) y) refl

pub returns-then-checked-clause-list : goal.returns-then-checked-clause-list
returns-then-checked-clause-list c =
    let f = c.args.self.now in
    let e = listed f.n _ _ _ c.write_list.ensures (simp length-take (omega arith)) in
    let y = checked f.n f.limit _ _ _ e (c.check_list_in-checked.ensures false Stable) ∙ c.if-checked.true in
    rw (leaf_yes (stable_of f c.args.rows.now) y) (c.copy_from_slice.ensures.after ∙ e)

pub returns-clause-passes : goal.returns-clause-passes
returns-clause-passes c =
    let f = c.args.self.now in
    let e = listed f.n _ _ _ c.write_list.ensures (simp length-take (omega arith)) in
    let y = checked f.n f.limit _ _ _ e (c.check_list_in-checked.ensures false Stable) ∙ c.if-checked.false in
    rw (leaf_no (stable_of f c.args.rows.now) y) refl

pub returns-clause-list : goal.returns-clause-list
returns-clause-list c =
    let f = c.args.self.now in
    let e = listed f.n _ _ _ c.write_list.ensures (simp length-take (omega arith)) in
    let y = checked f.n f.limit _ _ _ e (c.check_list_in-checked.ensures false Stable) ∙ c.if-checked.false in
    rw (leaf_no (stable_of f c.args.rows.now) y) refl
