-- Runs end within the ceiling, those of opened sheets too (W-206). Assumes nothing.
use mathlib.Core.Path.{◌≡◌, refl, ap}
use mathlib.Core.List.{List}
use Prim.Native.Nat.{ℕ}
use Rattle.circuit.specs.Card.{card}
use Rattle.sheet.specs.declared.Opened.{Opened}
use Rattle.sheet.specs.Open.{open_call}
use Rattle.sheet.proofs.GrammarLaws.{taken_sheet, opened_good}
use Rattle.filter.specs.Ends.{ceiling, EndsWithin}
use Rattle.filter.proofs.CeilingLaws.{run_ceiling, run_most, run_anywhere, run_enough}
use Rattle.demands.specs.Ceiling.{Ceiling}
use Rattle.demands.proofs.DemandLaws.{all_leads}

opened_within : (sheet : List ℕ) (limit : ℕ) → (open_call sheet limit).answer ≡ card 0 → EndsWithin (open_call sheet limit).work (ceiling 64 4032)
opened_within sheet limit t =
    let is = (taken_sheet sheet limit t).opened in
    run_most (open_call sheet limit).work (opened_good sheet limit t) (ap (λ (o : Opened). o.work.place) is) (ap (λ (o : Opened). o.work.mark) is)

pub ceiling_holds : Ceiling
ceiling_holds =
    record {
      begun = run_ceiling;
      largest = refl;
      opened = opened_within;
      anywhere = run_anywhere;
      enough = run_enough;
      sequence = λ sheet limit t cs. run_enough _ ((all_leads (open_call sheet limit).work cs).keeps (opened_good sheet limit t));
    }
