-- Rounds from the depot wall: the items with ◆ as one list, with the step counts of W-201, and beside them what W-201, W-202 and W-204 were asked for. The valleys
-- of W-205 are a second list.
use Rattle.std.specs.Prelude.{Bool, true, false, ◌&&◌, ◌||◌, List, [], ◌∷◌, ℕ, suc, eqb, length}
use Rattle.std.specs.Bool.{beq}
use Prim.Native.String.{String}
use Rattle.bitset.specs.Sets.{all}
use Rattle.circuit.specs.declared.state.Work.{Work}
use Rattle.filter.specs.declared.hand.Called.{Called}
use Rattle.circuit.specs.declared.card.Answer.{Answer}
use Rattle.circuit.specs.Card.{number, is_word}
use Rattle.bitset.specs.Upto.{row}
use Rattle.circuit.specs.Legs.{table_of, without, legs}
use Rattle.circuit.specs.State.{is_none, rows_of, fresh}
use Rattle.circuit.specs.Check.{check_call}
use Rattle.sheet.specs.Open.{open_call}
use Rattle.sheet.specs.Write.{sheet_of}
use Rattle.filter.specs.Calls.{sweep_call, chain_call, pass_call, run_call}
use Rattle.filter.specs.Ends.{full_budget}

-- a leg as the paper writes it: stations from 1
pub data Leg : Type 0 where
  leg : ℕ → ℕ → Leg

-- where an example starts: a sheet opened with a limit; or n stations with the given legs, and limit 64
pub data Start : Type 0 where
  sheet : List ℕ → ℕ → Start
  table : ℕ → List Leg → Start

-- an item
pub data Example : Type 0 where
  -- so many legs stand
  counts : Start → ℕ → Example
  -- one sweep removes exactly these legs
  sweeps : Start → List Leg → Example
  -- the chain step removes exactly these legs, and gives none or not
  chains : Start → List Leg → Bool → Example
  -- the pass with the seed removes exactly these legs, and gives none or not
  passes : Start → ℕ → List Leg → Bool → Example
  -- the run takes so many steps, and its end has the word
  runs : Start → ℕ → String → Example
  -- the list is a round of the table, or not
  lists : Start → List ℕ → Bool → Example
  -- the sheet is refused with the number, at the place
  refuses : List ℕ → ℕ → ℕ → Example
  -- the sheet written back has exactly these bytes
  writes : Start → List ℕ → Example

-- ---- what an example says

-- the leg i→j is in the list
unfoldable pub listed : List Leg → ℕ → ℕ → Bool
listed [] i j = false
listed (leg a b ∷ ls) i j = let r = listed ls i j in eqb a (suc i) && eqb b (suc j) || r

-- the state that an example starts from
unfoldable pub begun : Start → Work
begun (sheet s limit) = (open_call s limit).work
begun (table n ls) = fresh n (table_of n (listed ls)) 64

-- the answer has this number
abbrev pub is_number : ℕ → Answer → Bool
is_number k a = eqb (number a) k

-- the call on w was taken, removed exactly these legs, and gave none or not
unfoldable pub removes : Work → Called → List Leg → Bool → Bool
removes w r ls none =
    is_number 0 r.answer && eqb r.removed (length ls) && beq (is_none r.work.end) none
    && all 64 (λ i. eqb (row (rows_of r.work) i) (row (without w.n (rows_of w) (listed ls)) i))

-- the item holds
unfoldable pub holds : Example → Bool
holds (counts s k) = let w = begun s in eqb (legs w.n (rows_of w)) k
holds (sweeps s ls) = let w = begun s in removes w (sweep_call w) ls false
holds (chains s ls none) = let w = begun s in removes w (chain_call w) ls none
holds (passes s seed ls none) = let w = begun s in removes w (pass_call w seed) ls none
holds (runs s steps end) = let r = run_call (begun s) full_budget in is_number 0 r.answer && eqb r.steps steps && is_word end r.work.end
holds (lists s numbers round) = let r = check_call (begun s) numbers in is_number 0 r.answer && beq r.yes round
holds (refuses s k at) = let r = open_call s 64 in is_number k r.answer && eqb r.at at
holds (writes s bytes) = let r = sheet_of (begun s) in eqb (length r) (length bytes) && all (length bytes) (λ i. eqb (row r i) (row bytes i))

-- each item of the list holds
unfoldable pub every : List Example → Bool
every [] = true
every (e ∷ es) = holds e && every es

-- ---- the list

-- the sheet of nine legs
unfoldable pub nine_legs : List ℕ
nine_legs = 6 ∷ 1 ∷ 14 ∷ 0 ∷ 0 ∷ 0 ∷ 0 ∷ 0 ∷ 0 ∷ 0 ∷ 1 ∷ 17 ∷ 0 ∷ 0 ∷ 0 ∷ 0 ∷ 0 ∷ 0 ∷ 0 ∷ 4 ∷ 6 ∷ 4 ∷ 2 ∷ 4 ∷ 3 ∷ 4 ∷ 1 ∷ []

-- ring 1→2→3→4→1
unfoldable pub ring_of_four : Start
ring_of_four = table 4 (leg 1 2 ∷ leg 2 3 ∷ leg 3 4 ∷ leg 4 1 ∷ [])

-- ring of five
unfoldable pub ring_of_five : Start
ring_of_five = table 5 (leg 1 2 ∷ leg 2 3 ∷ leg 3 4 ∷ leg 4 5 ∷ leg 5 1 ∷ [])

-- butterfly, both ways 1–2, 1–3, 2–3, 3–4, 3–5, 4–5
unfoldable pub butterfly : Start
butterfly =
    table 5 (leg 1 2 ∷ leg 2 1 ∷ leg 1 3 ∷ leg 3 1 ∷ leg 2 3 ∷ leg 3 2 ∷ leg 3 4 ∷ leg 4 3 ∷ leg 3 5 ∷ leg 5 3 ∷ leg 4 5 ∷ leg 5 4 ∷ [])

-- all legs of four
unfoldable pub full_of_four : Start
full_of_four = sheet (4 ∷ 0 ∷ 0 ∷ 0 ∷ 0 ∷ []) 64

-- the chain 1→2→3→4 among six stations, with the leg 4→1 that closes it
unfoldable pub chain_of_four : Start
chain_of_four =
    table 6 (leg 1 2 ∷ leg 2 3 ∷ leg 3 4 ∷ leg 4 1 ∷ leg 4 5 ∷ leg 4 6 ∷ leg 5 6 ∷ leg 6 5 ∷ leg 5 1 ∷ leg 6 1 ∷ [])

-- the rings 1→2→3→4→1 and 5→6→5, each station fixed
unfoldable pub two_rings : List ℕ
two_rings = 6 ∷ 4 ∷ 2 ∷ 4 ∷ 3 ∷ 4 ∷ 4 ∷ 4 ∷ 1 ∷ 4 ∷ 6 ∷ 4 ∷ 5 ∷ []

-- two islands of three stations, all legs inside each
unfoldable pub two_islands : Start
two_islands =
    table 6 (leg 1 2 ∷ leg 1 3 ∷ leg 2 1 ∷ leg 2 3 ∷ leg 3 1 ∷ leg 3 2 ∷ leg 4 5 ∷ leg 4 6 ∷ leg 5 4 ∷ leg 5 6 ∷ leg 6 4 ∷ leg 6 5 ∷ [])

-- both legs of two
unfoldable pub both_of_two : Start
both_of_two = table 2 (leg 1 2 ∷ leg 2 1 ∷ [])

-- of three stations the first has one leg, the second both and the third none
unfoldable pub one_emptied : Start
one_emptied = table 3 (leg 1 2 ∷ leg 2 1 ∷ leg 2 3 ∷ [])

-- the items with ◆, then those of W-201, those of W-202, and last those of W-204
unfoldable pub examples : List Example
examples =
    sweeps (sheet nine_legs 64) (leg 1 2 ∷ leg 1 3 ∷ leg 2 1 ∷ [])
    ∷ passes (sheet nine_legs 64) 4 (leg 1 2 ∷ leg 2 1 ∷ []) false
    ∷ passes (sheet nine_legs 1) 4 [] false
    ∷ counts (sheet (3 ∷ 0 ∷ 0 ∷ 0 ∷ []) 64) 6
    ∷ runs (sheet (3 ∷ 0 ∷ 0 ∷ 0 ∷ []) 64) 5 "stable"
    ∷ runs (sheet (2 ∷ 0 ∷ 0 ∷ []) 64) 4 "stable"
    ∷ runs (sheet (2 ∷ 4 ∷ 1 ∷ 0 ∷ []) 64) 1 "none"
    ∷ passes ring_of_four 1 [] false
    ∷ passes ring_of_five 1 [] false
    ∷ passes butterfly 1 [] true
    ∷ runs butterfly 3 "none"
    ∷ lists full_of_four (2 ∷ 3 ∷ 4 ∷ 1 ∷ []) true
    ∷ lists full_of_four (2 ∷ 1 ∷ 4 ∷ 3 ∷ []) false
    ∷ refuses (3 ∷ 12 ∷ []) 3 1
    ∷ runs (sheet nine_legs 64) 16 "stable"
    ∷ chains chain_of_four (leg 4 1 ∷ []) false
    ∷ passes (sheet two_rings 1) 1 [] true
    ∷ passes two_islands 1 [] true
    ∷ runs two_islands 3 "none"
    ∷ writes (sheet nine_legs 64) nine_legs
    ∷ writes both_of_two (2 ∷ 0 ∷ 0 ∷ [])
    ∷ writes one_emptied (3 ∷ 4 ∷ 2 ∷ 0 ∷ 1 ∷ 0 ∷ 0 ∷ 0 ∷ 0 ∷ 0 ∷ 0 ∷ 0 ∷ 0 ∷ [])
    ∷ []

-- ---- W-205: valleys driven the wrong way

-- the valley of stations 5 and 6, with 1→5, 6→2 and 6→5 but no 5→6; one round stands, 1→4→3→2→6→5→1
unfoldable pub valley : Start
valley = table 6 (leg 1 4 ∷ leg 1 5 ∷ leg 2 6 ∷ leg 3 1 ∷ leg 3 2 ∷ leg 4 2 ∷ leg 4 3 ∷ leg 5 1 ∷ leg 6 2 ∷ leg 6 5 ∷ [])

-- the same valley with no leg into 6
unfoldable pub dead_end : Start
dead_end = table 6 (leg 1 5 ∷ leg 2 4 ∷ leg 3 2 ∷ leg 4 1 ∷ leg 4 3 ∷ leg 6 2 ∷ leg 6 5 ∷ [])

-- a way from 2 into the valley of 4 and 5, and a way out of it to 3, but no 4→5
unfoldable pub wrong_way : Start
wrong_way = table 5 (leg 1 2 ∷ leg 2 4 ∷ leg 3 1 ∷ leg 5 3 ∷ leg 5 4 ∷ [])

-- the component of 1 and 5 is entered and left at 5 on the way from 6 to 3, and at 1 from 3 to 2; one round stands, 1→2→4→6→5→3→1
unfoldable pub same_station : Start
same_station = table 6 (leg 1 2 ∷ leg 1 5 ∷ leg 2 4 ∷ leg 3 1 ∷ leg 4 3 ∷ leg 4 6 ∷ leg 5 3 ∷ leg 6 5 ∷ [])

-- With the mark of document 01, which asks for no way through the component, the pass removes nothing from the valley; at the dead end it removes 3→2 and does not
-- give none; and on the wrong way it says nothing. Where a component is entered and left at the same station, its mark stands.
unfoldable pub valleys : List Example
valleys =
    passes valley 4 (leg 3 1 ∷ []) false
    ∷ passes dead_end 4 [] true
    ∷ passes wrong_way 1 [] true
    ∷ passes same_station 4 [] false
    ∷ []
