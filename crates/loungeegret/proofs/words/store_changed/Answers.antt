-- `loungeegret::words::store_changed` meets its contract.
use mathlib.Core.Path.{sym, ap, ◌∙◌}
use mathlib.Core.List.{List, ◌++◌}
use Prim.Native.Nat.{ℕ}
use native.Mathlib.Omega.{arith}
use lib.ListN.{drop, take-append-drop}
use Rattle.loungeegret.proofs.words.store_changed.Goals as goal

pub returns-else-struck : goal.returns-else-struck
returns-else-struck c =
    let l : List ℕ = c.args.state.now in
    sym (ap (λ (r : List ℕ). r ++ drop 64 l) (c.requires (omega (arith, c.if-struck.false))) ∙ take-append-drop 64 l)
