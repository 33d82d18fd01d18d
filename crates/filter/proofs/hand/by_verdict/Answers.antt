-- `filter::by_verdict` meets its contract.
use mathlib.Core.Path.{◌≡◌, refl, sym, ap₂, ◌∙◌}
use Prim.Native.Nat.{ℕ}
use Rattle.circuit.specs.declared.state.Work.{Work}
use Rattle.circuit.specs.declared.card.Answer.TheVariants.{Taken}
use Rattle.circuit.specs.declared.verdict.Verdict.{Verdict}
use Rattle.circuit.proofs.StateLaws.{stray_sub}
use Rattle.filter.specs.Calls.{gone}
use Rattle.filter.specs.inner.Steps.{state_at}
use Rattle.filter.proofs.HandLaws.{hand_is}
use Rattle.filter.proofs.RemovalLaws.{left_same}
use Rattle.filter.proofs.hand.by_verdict.Goals as goal

pub removals-removed-requires : goal.removals-removed-requires
removals-removed-requires c =
    let a = c.args in
    let p = c.requires in
    (p.0, p.1, stray_sub a.n a.before.now a.left.now p.2 p.1, p.2, p.3)

pub returns : goal.returns
unfolding gone
returns c = λ limit.
    let r = c.removals-removed in
    let a = c.args in
    let p = c.requires in
    let w = state_at a.n a.before.now limit a.at in
    let v : Verdict = record { none = a.none; left = a.left.now } in
    let count : r.result ≡ gone w v = r.ensures in
    ap₂ (λ (u : Work) (k : ℕ). record { answer = Taken; work = u; removed = k })
    (c.moved_by.ensures w v refl refl refl p.4 refl count (λ z. left_same w v p.0 p.1 c.told-before c.told-left p.2 (sym count ∙ z))) count
    ∙ hand_is w v p.4
