-- The search for the first round, after any list of calls, finds that of the opened table (W-210). Assumes nothing.
use mathlib.Core.Path.{◌≡◌, refl, sym, ◌∙◌, subst}
use mathlib.Core.Logic.{inl, inr, ⊎_elim}
use mathlib.Core.Bool.{true}
use mathlib.Core.List.{List}
use Prim.Native.Nat.{ℕ, pred, ◌<◌}
use native.Mathlib.Nat.{eq-or-lt_of_le}
use native.Mathlib.Omega.{arith}
use lib.Count.{count_trailing_zeros}
use lib.ListN.{length, get_or}
use lib.Seq.{ext_get_or}
use Rattle.bitset.proofs.QuantLaws.{below?}
use Rattle.circuit.specs.declared.state.Work.{Work}
use Rattle.circuit.specs.Card.{card}
use Rattle.circuit.specs.Round.{RoundOf, All, NoneIn}
use Rattle.circuit.specs.State.{rows_of, Good}
use Rattle.circuit.specs.Check.{choice_of, Numbers, ListsRound}
use Rattle.circuit.proofs.StateLaws.{not_bad}
use Rattle.circuit.proofs.CheckLaws.{list_round, round_list}
use Rattle.circuit.proofs.Turn.{round_on}
use Rattle.sheet.specs.Open.{open_call}
use Rattle.sheet.proofs.GrammarLaws.{opened_good, opened_long}
use Rattle.filter.specs.Leads.{Leads}
use Rattle.finder.specs.declared.outcome.Outcome.TheVariants.{Found, NoRound}
use Rattle.finder.specs.Search.{children, settled, decided, list_in, leaf, search_from, whole}
use Rattle.finder.specs.Call.{outcome_of, nodes_of, list_after, first_call, first_list}
use Rattle.finder.specs.First.{Before, First}
use Rattle.finder.specs.Claims.{Finds}
use Rattle.finder.proofs.CallLaws.{finds}
use Rattle.demands.specs.Sequence.{Call, after_all}
use Rattle.demands.specs.Definitions.{definitions}
use Rattle.demands.specs.Examples.{listed, begun, nine_legs, butterfly}
use Rattle.demands.specs.Rounds.{FirstAfter, SearchAfter, seeks, full_of_three, catalogue, second_child, no_child, searches}
use Rattle.demands.proofs.DemandLaws.{all_leads, all_leads_all}

-- ---- one round is the first, and one list names it

before_both : (n : ℕ) (x y : ℕ → ℕ) → Before n x y → Before n y x → (i : ℕ) → i < n → x i ≡ y i
before_both n x y (inl e) q i l = e i l
before_both n x y (inr f) (inl e) i l = sym (e i l)
before_both n x y (inr f) (inr g) i l = absurd (⊎_elim earlier (λ h. ⊎_elim there later (eq-or-lt_of_le h)) (below? f.0 g.0))
  where
    earlier : f.0 < g.0 → ⊥
    earlier h = omega (arith, f.3, g.2 f.0 h)

    there : g.0 ≡ f.0 → ⊥
    there e = let less : y f.0 < x f.0 = subst (λ (k : ℕ). y k < x k) e g.3 in omega (arith, f.3, less)

    later : g.0 < f.0 → ⊥
    later h = omega (arith, g.3, f.2 g.0 h)

same_list : (n : ℕ) (s r : List ℕ) → Numbers n s → Numbers n r → ((i : ℕ) → i < n → choice_of s i ≡ choice_of r i) → s ≡ r
same_list n s r S R e =
    ext_get_or 0 s r (S.len ∙ sym R.len) (λ i h.
    let l : i < n = omega (arith, h, S.len) in
    let same : pred (get_or s i 0) ≡ pred (get_or r i 0) = e i l in
    omega (arith, same, S.low i l, R.low i l))

-- ---- after a list of calls

module _ (w : Work) (g : Good w) (long : length (rows_of w) ≡ 64) (old : List ℕ) (fits : length old ≡ w.n) where
  module _ {P : (ℕ → ℕ) → Type 0} (cs : List Call) (L : Leads P w (after_all w cs)) (b : ℕ) where
    abbrev u : Work
    u = after_all w cs

    abbrev Finding : Type 0
    Finding = (first_call u b old).outcome ≡ Found

    told : Finds u b (first_call u b old) (first_list u b old)
    told = finds u b old (not_bad u (L.keeps g)) (L.long long) (fits ∙ sym L.stations)

    -- a round of the table that is left is one of the opened table
    was_round : (h : ℕ → ℕ) → RoundOf w.n (rows_of u) h → RoundOf w.n (rows_of w) h
    was_round h r = round_on r (λ i l. L.sub i (h i) (r.drives i l))

    is_first : Finding → First P w.n (rows_of w) (choice_of (first_list u b old))
    is_first e =
        let f = subst (λ (n : ℕ). First All n (rows_of u) (choice_of (first_list u b old))) L.stations (told.found e) in
        record { round = was_round (choice_of (first_list u b old)) f.round; first = λ y p r. f.first y tt (L.rounds y p r) }

    lists : Finding → ListsRound w.n (rows_of w) (first_list u b old)
    lists e =
        let r = subst (λ (n : ℕ). ListsRound n (rows_of u) (first_list u b old)) L.stations (list_round u (first_list u b old) (told.passes e)).1 in
        record { numbers = r.numbers; round = was_round (choice_of (first_list u b old)) r.round }

    no_round : (first_call u b old).outcome ≡ NoRound → NoneIn P w.n (rows_of w)
    no_round e h p r = (told.none e).0 h tt (subst (λ (n : ℕ). RoundOf n (rows_of u) h) (sym L.stations) (L.rounds h p r))

    after : FirstAfter P w cs b old
    after = record { found = is_first; passes = λ e. round_list w (first_list u b old) g (lists e); none = no_round }

  searches_after : SearchAfter w old
  searches_after =
      record {
        list = λ cs b. after cs (all_leads w cs) b;
        all_rounds = λ cs b o. after cs (all_leads_all w cs o) b;
        same = λ cs ds b c o p e q.
            let L = all_leads_all w cs o in
            let M = all_leads_all w ds p in
            let x = is_first cs L b e in
            let y = is_first ds M c q in
            same_list w.n (first_list (after_all w cs) b old) (first_list (after_all w ds) c old) (lists cs L b e).numbers (lists ds M c q).numbers
            (before_both w.n (choice_of (first_list (after_all w cs) b old)) (choice_of (first_list (after_all w ds) c old)) (x.first _ tt y.round) (y.first _ tt x.round));
      }

pub first_after : (sheet : List ℕ) (limit : ℕ) → (open_call sheet limit).answer ≡ card 0 → (old : List ℕ) → length old ≡ (open_call sheet limit).work.n
    → SearchAfter (open_call sheet limit).work old
first_after sheet limit t old fits = searches_after (open_call sheet limit).work (opened_good sheet limit t) (opened_long sheet limit) old fits

-- ---- the examples, by computation

pub searches_hold : searches ≡ true
unfolding definitions listed begun nine_legs butterfly seeks full_of_three catalogue second_child no_child searches children settled decided list_in leaf search_from whole outcome_of nodes_of list_after first_call first_list count_trailing_zeros
searches_hold = refl
