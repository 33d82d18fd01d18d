-- The demands of the paper, beside the equations that the calls promise.
use Rattle.std.specs.Prelude.{◌≡◌, true, false, List, [], ◌∷◌, ◌++◌, ℕ, ◌+◌, ◌≤◌, ◌<◌, length}
use Rattle.circuit.specs.declared.card.Answer.{Answer}
use Rattle.circuit.specs.declared.state.Work.{Work}
use Rattle.circuit.specs.Card.{card, ending}
use Rattle.circuit.specs.Legs.{leg, legs, Subtable}
use Rattle.circuit.specs.Round.{All, NoneIn, Drivable}
use Rattle.circuit.specs.State.{rows_of, blank, bad, Good}
use Rattle.circuit.specs.Check.{check_call, ListsRound}
use Rattle.sheet.specs.Layout.{Entry, Page, entries_bytes, bytes_of, EntryFits, WellFormed}
use Rattle.bitset.specs.Upto.{Each}
use Rattle.sheet.specs.Open.{refused, taken, opened_page, open_call, TakenSheet}
use Rattle.sheet.specs.Write.{sheet_of, write_call, write_bytes}
use Rattle.report.specs.Lines.{report_call, report_bytes}
use Rattle.filter.specs.declared.rule.Rule.{Rule}
use Rattle.filter.specs.Calls.{unchanged, hand_call, idle, run_call}
use Rattle.filter.specs.Leads.{Budgets}
use Rattle.cut.specs.Call.{uncut, cut_call}
use Rattle.demands.specs.Sequence.{Call, handed, after_all, DrivesAllGiven, NoCuts, fed_back, no_roads}

-- the answer is a refusal
abbrev pub Refusal : Answer → Type 0
Refusal a = a ≡ card 0 → ⊥

-- Demand 1: conforming sheets are taken, and no others; a refusal hands back what it must, and changes no byte
pub record Demand1 : Type 0 where
  -- the bytes of a well-formed page are taken with a good limit, and the table has exactly the legs of the leg rule
  pub sheets : (p : Page) (limit : ℕ) → WellFormed p → 1 ≤ limit → limit ≤ 64 → open_call (bytes_of p) limit ≡ opened_page p limit
  -- what is taken is the bytes of a well-formed page, with a good limit, and gives that page
  pub no_others : (s : List ℕ) (limit : ℕ) → (open_call s limit).answer ≡ card 0 → TakenSheet s limit
  -- an unknown bit after well-formed records is refused with 3 at its byte, whatever follows
  pub unknown : (n : ℕ) (es : List Entry) (m : ℕ) (rest : List ℕ) (limit : ℕ)
      → 2 ≤ n → n ≤ 64 → length es < n → Each (EntryFits n) es → 8 ≤ m → 1 ≤ limit → limit ≤ 64
      → open_call (n ∷ entries_bytes es (m ∷ rest)) limit ≡ refused (card 3) (1 + length (entries_bytes es []))
  -- a refused opening hands back the blank work state
  pub opening : (s : List ℕ) (limit : ℕ) → Refusal (open_call s limit).answer → (open_call s limit).work ≡ blank
  -- a refused call by hand or run hands back the given state, with zero removals and steps
  pub by_hand : (w : Work) (r : Rule) → Refusal (hand_call w r).answer → hand_call w r ≡ unchanged (hand_call w r).answer w
  pub run : (w : Work) (budget : ℕ) → Refusal (run_call w budget).answer → run_call w budget ≡ idle (run_call w budget).answer w
  -- a refused cut step hands back both tables as they were given
  pub cut : (w : Work) (must : List ℕ) → Refusal (cut_call w must).answer → cut_call w must ≡ uncut (cut_call w must).answer w must
  -- a refused list check says no
  pub list : (w : Work) (s : List ℕ) → Refusal (check_call w s).answer → (check_call w s).yes ≡ false
  -- a refused report has length 0 and changes no byte
  pub report : (w : Work) (buffer : List ℕ) → Refusal (report_call w buffer).answer → ((report_call w buffer).len ≡ 0) × (report_bytes w buffer ≡ buffer)
  -- a refused writing of the sheet has length 0 and changes no byte
  pub write : (w : Work) (buffer : List ℕ) → Refusal (write_call w buffer).answer → ((write_call w buffer).len ≡ 0) × (write_bytes w buffer ≡ buffer)

-- Demand 2: the calls' complete results are the equations that they promise; this is what those say of removals, steps and rounds
pub record Demand2 : Type 0 where
  -- removals are legs before less legs after
  pub removed : (w : Work) (r : Rule) → (hand_call w r).removed + legs w.n (rows_of (hand_call w r).work) ≡ legs w.n (rows_of w)
  pub run_removed : (w : Work) (budget : ℕ) → (run_call w budget).removed + legs w.n (rows_of (run_call w budget).work) ≡ legs w.n (rows_of w)
  pub cut_removed : (w : Work) (must : List ℕ) → (cut_call w must).removed + legs w.n (rows_of (cut_call w must).work) ≡ legs w.n (rows_of w)
  -- a run takes no more steps than its budget, and stops open only where the budget is spent
  pub steps : (w : Work) (budget : ℕ) → (run_call w budget).steps ≤ budget
  pub spent : (w : Work) (budget : ℕ) → bad w ≡ false → (run_call w budget).work.end ≡ ending "open" → (run_call w budget).steps ≡ budget
  -- n and the limit never change
  pub stations : (w : Work) (c : Call) → (handed w c).n ≡ w.n
  pub limit : (w : Work) (c : Call) → (handed w c).limit ≡ w.limit
  -- the list check says yes exactly of a good state and the list of a round of its table
  pub rounds : (w : Work) (s : List ℕ) → (check_call w s).yes ≡ true → Good w × ListsRound w.n (rows_of w) s
  pub listed : (w : Work) (s : List ℕ) → Good w → ListsRound w.n (rows_of w) s → (check_call w s).yes ≡ true

-- of the list of calls cs, from the opened state w, and a class P of rounds
pub record Kept (P : (ℕ → ℕ) → Type 0) (w : Work) (cs : List Call) : Type 0 where
  -- every leg that is drivable in the class still stands
  pub drivable : (i j : ℕ) → Drivable P w.n (rows_of w) i j → leg (rows_of (after_all w cs)) i j ≡ true
  -- the end is none only where the opened table has no round of the class
  pub none : (after_all w cs).end ≡ ending "none" → NoneIn P w.n (rows_of w)
  -- no leg stands that was missing from the opened table (the empty beginning) or after any earlier call
  pub missing : (before later : List Call) → cs ≡ before ++ later → Subtable (rows_of (after_all w cs)) (rows_of (after_all w before))

-- Demand 3: what a list of calls from an opened sheet keeps, and two budgets from any work state
pub record Demand3 : Type 0 where
  -- of the rounds that drive every must-drive road given to the cut steps of the list that were not refused
  pub list : (sheet : List ℕ) (limit : ℕ) → (open_call sheet limit).answer ≡ card 0 → (cs : List Call)
      → Kept (DrivesAllGiven (open_call sheet limit).work cs) (open_call sheet limit).work cs
  -- so of all rounds in a list without cut steps
  pub without_cuts : (sheet : List ℕ) (limit : ℕ) → (open_call sheet limit).answer ≡ card 0 → (cs : List Call) → NoCuts cs → Kept All (open_call sheet limit).work cs
  -- and where the cut steps get no must-drive roads but those that they handed back
  pub fed_back_lem : (sheet : List ℕ) (limit : ℕ) → (open_call sheet limit).answer ≡ card 0 → (cs : List Call)
      → Kept All (open_call sheet limit).work (fed_back (open_call sheet limit).work no_roads cs)
  pub budgets : (w : Work) (a b : ℕ) → a ≤ b → Budgets w a b
  -- a bad state is refused under every budget and comes back as it was
  pub refused : (w : Work) (budget : ℕ) → bad w ≡ true → run_call w budget ≡ idle (card 7) w

-- of the list of calls cs, from the opened state w: the sheet of what is left, sent back and opened with a good limit l
pub record SentBack (w : Work) (cs : List Call) (l : ℕ) : Type 0 where
  -- it is taken, and gives the n and the table that are left
  pub opens : open_call (sheet_of (after_all w cs)) l ≡ taken (after_all w cs).n (rows_of (after_all w cs)) l
  -- every leg that was drivable in the opened table, by a round that drives what the cut steps were given, stands in that table
  pub drivable : (i j : ℕ) → Drivable (DrivesAllGiven w cs) w.n (rows_of w) i j → leg (rows_of (open_call (sheet_of (after_all w cs)) l).work) i j ≡ true
