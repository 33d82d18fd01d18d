-- `Level::heads_from` meets its contract. Assumes nothing.
use mathlib.Core.Path.{sym, subst}
use Prim.Native.Nat.{ℕ}
use native.Mathlib.Omega.{arith}
use Rattle.separator.specs.inner.Spares.{CoreOf}
use Rattle.separator.proofs.EndsLaws.{part_at, heads_bare, heads_through}
use Rattle.separator.proofs.level.Level.heads_from.Goals as goal

pub returns-then-m-eq0 : goal.returns-then-m-eq0
returns-then-m-eq0 c =
    let a = c.args in
    heads_bare a.self.now.net.now.rows a.self.now.s a.self.now.parts.now a.i a.m c.if-m-eq0.true (omega arith)

pub joined-requires : goal.joined-requires
joined-requires c =
    let a = c.args in
    (c.requires.0, subst (λ (w : ℕ). CoreOf a.self.now.net.now.rows w a.core) (sym (part_at a.self.now.parts.now a.m (omega arith))) c.requires.2)

pub returns : goal.returns
returns c =
    let a = c.args in
    heads_through a.self.now.net.now.rows a.self.now.s a.self.now.parts.now a.i a.m c.joined.result (omega arith) c.joined.ensures
