-- The demands hold, and what they say of the sheet that is sent back. Assumes nothing.
use mathlib.Core.Path.{◌≡◌, refl, sym, ap, ◌∙◌, subst}
use mathlib.Core.Logic.{⊎_elim}
use mathlib.Core.Bool.{false}
use mathlib.Core.List.{List, [], ◌∷◌, ◌++◌}
use Prim.Native.Nat.{ℕ, ◌≤◌}
use Rattle.bitset.proofs.BoolLaws.{clash, not_both}
use Rattle.circuit.specs.declared.card.End.TheVariants.{Open}
use Rattle.circuit.specs.declared.state.Work.{Work}
use Rattle.circuit.specs.Card.{card}
use Rattle.circuit.specs.Legs.{leg}
use Rattle.circuit.specs.State.{rows_of}
use Rattle.circuit.proofs.DifferenceLaws.{no_leg}
use Rattle.circuit.proofs.CheckLaws.{list_round, round_list}
use Rattle.sheet.specs.declared.Opened.{Opened}
use Rattle.sheet.specs.Open.{open_call}
use Rattle.sheet.specs.Write.{Whole}
use Rattle.sheet.proofs.GrammarLaws.{sheet_taken, taken_sheet, opened_good, opened_long, unknown_bit_refused}
use Rattle.sheet.proofs.FaithfulLaws.{faithful}
use Rattle.circuit.specs.Round.{RoundOf, All}
use Rattle.roads.specs.Cut.{DrivesAll}
use Rattle.filter.specs.Leads.{Leads}
use Rattle.filter.proofs.CallLaws.{stay, leads_for, leads_on, open_none, hand_call_leads, run_call_leads}
use Rattle.filter.proofs.RunLaws.{budgets, run_bad}
use Rattle.cut.specs.Call.{cut_call}
use Rattle.cut.proofs.CallLaws.{cut_refused, cut_leads, cut_keeps, cut_removed}
use Rattle.demands.specs.Sequence.{Call, calling, running, cutting, asking, handed, after_all, DrivesGiven, DrivesAllGiven, OfAllRounds, is_cut, NoCuts, fed_back, no_roads}
use Rattle.demands.specs.Demands.{Demand1, Demand2, Kept, Demand3, SentBack}
use Rattle.demands.proofs.RefusalLaws.{opening_refused, hand_refused, run_refused, list_refused, report_refused, write_refused}
use Rattle.filter.proofs.RemovalLaws.{hand_removed, run_removed}
use Rattle.demands.proofs.CountLaws.{steps_most, open_spent}

-- ---- a list of calls

-- a call keeps the rounds that drive what it was given
pub handed_leads : (w : Work) (c : Call) → Leads (DrivesGiven w c) w (handed w c)
unfolding handed
handed_leads w (calling r) = hand_call_leads All w r
handed_leads w (running budget) = run_call_leads All w budget
handed_leads w (cutting must) = cut_leads w must
handed_leads w (asking q) = stay All w

-- a list of calls those that drive what each of them was given
pub all_leads : (w : Work) (cs : List Call) → Leads (DrivesAllGiven w cs) w (after_all w cs)
unfolding after_all
all_leads w [] = stay All w
all_leads w (c ∷ cs) =
    leads_on (DrivesAllGiven w (c ∷ cs)) w (handed w c) (after_all (handed w c) cs)
    (leads_for (λ h d _. d.0) (handed_leads w c)) (leads_for (λ h d _. d.1) (all_leads (handed w c) cs))

-- ---- lists that speak of all rounds

-- a round that drives what the call was given stands after it
stands : (w : Work) (c : Call) (h : ℕ → ℕ) → DrivesGiven w c h → RoundOf w.n (rows_of w) h → RoundOf (handed w c).n (rows_of (handed w c)) h
stands w c h d r = let L = handed_leads w c in subst (λ (n : ℕ). RoundOf n (rows_of (handed w c)) h) (sym L.stations) (L.rounds h d r)

-- n stays
still_drives : (w : Work) (c : Call) (m : List ℕ) (h : ℕ → ℕ) → DrivesAll w.n m h → DrivesAll (handed w c).n m h
still_drives w c m h d = subst (λ (n : ℕ). DrivesAll n m h) (sym (handed_leads w c).stations) d

drives_given : (w : Work) (c : Call) → is_cut c ≡ false → (h : ℕ → ℕ) → DrivesGiven w c h
unfolding is_cut
drives_given w (calling r) e h = tt
drives_given w (running budget) e h = tt
drives_given w (cutting must) e h = clash e
drives_given w (asking q) e h = tt

pub no_cuts : (w : Work) (cs : List Call) → NoCuts cs → OfAllRounds w cs
no_cuts w [] none h r = tt
no_cuts w (c ∷ cs) (e, none) h r = let d = drives_given w c e h in (d, no_cuts (handed w c) cs none h (stands w c h d r))

-- a round that drives what the next cut step is given drives what each later one is given
drives_fed : (w : Work) (m : List ℕ) (cs : List Call) (h : ℕ → ℕ) → DrivesAll w.n m h → RoundOf w.n (rows_of w) h → DrivesAllGiven w (fed_back w m cs) h
unfolding fed_back
drives_fed w m [] h d r = tt
drives_fed w m (calling x ∷ cs) h d r = (tt, drives_fed (handed w (calling x)) m cs h (still_drives w (calling x) m h d) (stands w (calling x) h tt r))
drives_fed w m (running b ∷ cs) h d r = (tt, drives_fed (handed w (running b)) m cs h (still_drives w (running b) m h d) (stands w (running b) h tt r))
drives_fed w m (cutting _ ∷ cs) h d r = (
  λ _. d,
  drives_fed (handed w (cutting m)) (cut_call w m).must cs h (still_drives w (cutting m) (cut_call w m).must h ((cut_keeps w m).drives h d r)) (stands w (cutting m) h (λ _. d) r),
)
drives_fed w m (asking q ∷ cs) h d r = (tt, drives_fed (handed w (asking q)) m cs h (still_drives w (asking q) m h d) (stands w (asking q) h tt r))

pub fed_back_lem : (w : Work) (cs : List Call) → OfAllRounds w (fed_back w no_roads cs)
fed_back_lem w cs h r = drives_fed w no_roads cs h (λ i j _ _ e. absurd (not_both e (no_leg i j))) r

-- the calls of such a list keep all rounds
pub all_leads_all : (w : Work) (cs : List Call) → OfAllRounds w cs → Leads All w (after_all w cs)
all_leads_all w cs o = leads_for (λ h _ r. o h r) (all_leads w cs)

all_append : (w : Work) (cs bs : List Call) → after_all w (cs ++ bs) ≡ after_all (after_all w cs) bs
unfolding after_all
all_append w [] bs = refl
all_append w (c ∷ cs) bs = all_append (handed w c) cs bs

module _ {P : (ℕ → ℕ) → Type 0} (w : Work) (o : w.end ≡ Open) (cs : List Call) (L : Leads P w (after_all w cs)) where
  kept : Kept P w cs
  kept =
      record {
        drivable = λ i j d. ap (leg (rows_of (after_all w cs)) i) (sym d.driven) ∙ (L.rounds d.choice d.member d.round).drives i d.station;
        none = λ e h p r. ⊎_elim (λ f. open_none (sym o ∙ f)) (λ f. f h p r) (L.none e);
        missing = λ before later e i j h.
            (all_leads (after_all w before) later).sub i j (ap (λ (u : Work). leg (rows_of u) i j) (sym (ap (after_all w) e ∙ all_append w before later)) ∙ h);
      }

-- ---- the demands

pub demand1 : Demand1
demand1 =
    record {
      sheets = sheet_taken;
      no_others = taken_sheet;
      unknown = unknown_bit_refused;
      opening = opening_refused;
      by_hand = hand_refused;
      run = run_refused;
      cut = cut_refused;
      list = list_refused;
      report = report_refused;
      write = write_refused;
    }

pub demand2 : Demand2
demand2 =
    record {
      removed = hand_removed;
      run_removed = run_removed;
      cut_removed = cut_removed;
      steps = steps_most;
      spent = open_spent;
      stations = λ w c. (handed_leads w c).stations;
      limit = λ w c. (handed_leads w c).limit;
      rounds = list_round;
      listed = round_list;
    }

pub opened_open : (sheet : List ℕ) (limit : ℕ) → (open_call sheet limit).answer ≡ card 0 → (open_call sheet limit).work.end ≡ Open
opened_open sheet limit t = ap (λ (r : Opened). r.work.end) (taken_sheet sheet limit t).opened

pub demand3 : Demand3
demand3 =
    record {
      list = λ sheet limit t cs. let w = (open_call sheet limit).work in kept w (opened_open sheet limit t) cs (all_leads w cs);
      without_cuts = λ sheet limit t cs none.
          let w = (open_call sheet limit).work in kept w (opened_open sheet limit t) cs (all_leads_all w cs (no_cuts w cs none));
      fed_back_lem = λ sheet limit t cs.
          let w = (open_call sheet limit).work in
          let ds = fed_back w no_roads cs in
          kept w (opened_open sheet limit t) ds (all_leads_all w ds (fed_back_lem w cs));
      budgets = budgets;
      refused = run_bad;
    }

-- ---- the sheet that is sent back

all_whole : (sheet : List ℕ) (limit : ℕ) → (open_call sheet limit).answer ≡ card 0 → (cs : List Call) → Whole (after_all (open_call sheet limit).work cs)
all_whole sheet limit t cs =
    let L = all_leads (open_call sheet limit).work cs in
    record { good = L.keeps (opened_good sheet limit t); long = L.long (opened_long sheet limit) }

pub sent_back : (sheet : List ℕ) (limit : ℕ) → (open_call sheet limit).answer ≡ card 0 → (cs : List Call) (l : ℕ) → 1 ≤ l → l ≤ 64
    → SentBack (open_call sheet limit).work cs l
sent_back sheet limit t cs l lo hi =
    let opens = faithful.opens (after_all (open_call sheet limit).work cs) l (all_whole sheet limit t cs) lo hi in
    record { opens = opens; drivable = λ i j d. ap (λ (o : Opened). leg (rows_of o.work) i j) opens ∙ (demand3.list sheet limit t cs).drivable i j d }
