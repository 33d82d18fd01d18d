-- What a refused call hands back. Assumes nothing.
use mathlib.Core.Path.{◌≡◌, refl}
use mathlib.Core.Bool.{false, not, cond}
use mathlib.Core.List.{List}
use Prim.Native.Nat.{ℕ}
use lib.Dec.{eqb}
use lib.ListN.{length}
use Rattle.bitset.specs.Sets.{outside}
use Rattle.bitset.proofs.BoolLaws.{cond_elim}
use Rattle.circuit.specs.declared.card.Answer.TheVariants.{Taken, BadLimit, BadWork, WrongLength}
use Rattle.circuit.specs.declared.list.Checked.{Checked}
use Rattle.circuit.specs.declared.state.Work.{Work}
use Rattle.circuit.specs.State.{rows_of, blank, bad}
use Rattle.circuit.specs.Check.{is_list, check_call}
use Rattle.circuit.proofs.FillLaws.{fill_refused}
use Rattle.sheet.specs.declared.Opened.{Opened}
use Rattle.sheet.specs.Layout.{Page}
use Rattle.sheet.specs.Open.{Got, got, fault, read_page, refused, opened, open_call}
use Rattle.sheet.specs.Write.{sheet_of, write_call, write_bytes}
use Rattle.report.specs.Lines.{text, report_call, report_bytes}
use Rattle.filter.specs.declared.cycle.Ran.{Ran}
use Rattle.filter.specs.declared.rule.Rule.{Rule}
use Rattle.filter.specs.Calls.{unchanged, hand_call, idle, run_call}
use Rattle.filter.proofs.HandLaws as hand
use Rattle.filter.proofs.AfterLaws.{run_call_cases}
use Rattle.filter.proofs.RunLaws.{run_taken}
use Rattle.demands.specs.Demands.{Refusal}

-- ---- opening

read_refused : (len limit : ℕ) (g : Got Page) → Refusal (opened len limit g).answer → (opened len limit g).work ≡ blank
unfolding opened
read_refused len limit (fault c s) h = refl
read_refused len limit (got p s) h = absurd (h refl)

pub opening_refused : (s : List ℕ) (limit : ℕ) → Refusal (open_call s limit).answer → (open_call s limit).work ≡ blank
unfolding open_call
opening_refused s limit =
    cond_elim (λ (o : Opened). Refusal o.answer → o.work ≡ blank) (outside 1 64 limit) (refused BadLimit 0) (opened (length s) limit (read_page s)) (λ _ h. refl) (λ _. read_refused (length s) limit (read_page s))

-- ---- the calls by hand and the run

pub hand_refused : (w : Work) (r : Rule) → Refusal (hand_call w r).answer → hand_call w r ≡ unchanged (hand_call w r).answer w
hand_refused w r = hand.hand_refused w r

pub run_refused : (w : Work) (budget : ℕ) → Refusal (run_call w budget).answer → run_call w budget ≡ idle (run_call w budget).answer w
run_refused w budget =
    run_call_cases (λ (r : Ran). Refusal r.answer → r ≡ idle r.answer w) w budget (λ _ _. refl) (λ _ h. absurd (h (run_taken budget w)))

-- ---- the list check, the report and the sheet written back

pub list_refused : (w : Work) (s : List ℕ) → Refusal (check_call w s).answer → (check_call w s).yes ≡ false
unfolding check_call
list_refused w s =
    cond_elim no (bad w) (record { answer = BadWork; yes = false }) (cond (not (eqb (length s) w.n)) (record { answer = WrongLength; yes = false }) yes) (λ _ _. refl) (λ _.
    cond_elim no (not (eqb (length s) w.n)) (record { answer = WrongLength; yes = false }) yes (λ _ _. refl) (λ _ h. absurd (h refl)))
  where
    no : Checked → Type 0
    no c = Refusal c.answer → c.yes ≡ false

    yes : Checked
    yes = record { answer = Taken; yes = is_list w.n (rows_of w) s }

pub report_refused : (w : Work) (buffer : List ℕ) → Refusal (report_call w buffer).answer → ((report_call w buffer).len ≡ 0) × (report_bytes w buffer ≡ buffer)
report_refused w buffer = fill_refused w (text w) buffer

pub write_refused : (w : Work) (buffer : List ℕ) → Refusal (write_call w buffer).answer → ((write_call w buffer).len ≡ 0) × (write_bytes w buffer ≡ buffer)
write_refused w buffer = fill_refused w (sheet_of w) buffer
