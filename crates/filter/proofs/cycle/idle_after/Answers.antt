-- `filter::idle_after` meets its contract.
use mathlib.Core.Path.{◌≡◌, ap, ◌∙◌}
use mathlib.Core.Bool.{Bool, false}
use native.Mathlib.Omega.{arith}
use Rattle.bitset.proofs.BoolLaws.{or_false_l, or_false_r}
use Rattle.filter.proofs.IdleLaws.{idle_none, idle_stay, idle_more}
use Rattle.filter.proofs.cycle.idle_after.Goals.{Else-taken}
use Rattle.filter.proofs.cycle.idle_after.Goals as goal

-- the verdict is not none, and no leg went
not_none : (c : Else-taken) → c.args.taken.none ≡ false
not_none c = let r = c.args.taken in or_false_l r.none r.struck c.if-taken.false

not_struck : (c : Else-taken) → c.args.taken.struck ≡ false
not_struck c = let r = c.args.taken in or_false_r r.none r.struck c.if-taken.false

pub returns-then-taken : goal.returns-then-taken
returns-then-taken c = λ n limit t u I v same. idle_none n limit u

pub returns-then-place-lt2 : goal.returns-then-place-lt2
returns-then-place-lt2 c = λ n limit t u I v same. idle_stay n limit t _ I u (same (not_struck (goal.at.returns-then-place-lt2 c).Else-taken))

pub returns : goal.returns
returns c = λ n limit t u I v same.
    idle_more n limit t c.args.idle I u (same (not_struck (goal.at.returns c).Else-taken)) c.args.place (omega (arith, c.if-place-lt2.false)) c.requires
    (v ∙ ap (λ (b : Bool). record { none = b; left = u }) (not_none (goal.at.returns c).Else-taken))
