-- `Level::joined` meets its contract. Assumes nothing.
use mathlib.Core.Path.{◌≡◌, ap, ap₂, ◌∙◌}
use mathlib.Core.List.{List}
use Prim.Native.Nat.{ℕ}
use native.Mathlib.Omega.{arith}
use lib.Bits.{bit_and, bit_or, and_le_r}
use Rattle.bitset.specs.Upto.{row}
use Rattle.circuit.specs.Legs.{leg}
use Rattle.separator.specs.declared.reach.Led.{Led}
use Rattle.separator.specs.Components.{grow}
use Rattle.separator.specs.inner.Reach.{entered, LedFrom}
use Rattle.separator.proofs.EndsLaws.{joined_is}
use Rattle.separator.proofs.LedLaws.{entered_both}
use Rattle.separator.proofs.CoreLaws.{core_led}
use Rattle.separator.proofs.level.Level.joined.Goals as goal

-- the stations that have a leg from where a set leads
onward : {t : List ℕ} {room start : ℕ} {r : Led} → LedFrom t room start r → r.beyond ≡ entered t (grow 64 64 (leg t) room start)
onward {t} l = l.beyond ∙ ap (entered t) l.all

pub returns-then-into-core-eq0 : goal.returns-then-into-core-eq0
returns-then-into-core-eq0 c =
    let a = c.args in
    joined_is a.self.now.net.now.rows a.self.now.s a.part a.i _ (omega arith) c.ranges.part.fits (onward c.led_from.ensures)

pub returns : goal.returns
returns c =
    let a = c.args in
    let t = a.self.now.net.now.rows in
    let into : ℕ = bit_and (row t a.i) a.part in
    joined_is t a.self.now.s a.part a.i _ (omega arith) c.ranges.part.fits
    (ap₂ bit_or c.requires.1.beyond (onward c.led_from-2.ensures) ∙ entered_both t _ _
    ∙ ap (entered t) (core_led t a.part a.core into c.requires.1 (omega (arith, and_le_r (row t a.i) a.part)) (omega arith)))
