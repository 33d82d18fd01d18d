-- What the code's readers answer, held against what the rules read from the same bytes. Only inner contracts cite it.
use Rattle.std.specs.Prelude.{◌≡◌, Bool, not, ◌&&◌, List, ℕ, ◌≤◌, ◌<◌, eqb, length, get_or, drop, Result, Ok, Err}
use Rattle.std.proofs.Math.Option.{Option}
use Rattle.bitset.specs.Sets.{has, set_of}
use Rattle.circuit.specs.declared.card.Answer.{Answer}
use Rattle.sheet.specs.declared.Opened.{Opened}
use Rattle.sheet.specs.declared.reader.Fault.{Fault}
use Rattle.sheet.specs.declared.reader.Record.{Record}
use Rattle.sheet.specs.declared.reader.Stations.{Stations}
use Rattle.sheet.specs.Layout.{Entry, allows, fixes}
use Rattle.sheet.specs.Open.{Got, got, fault, refused}

-- something was read, and the rest starts at the offset `end` of s
pub record GotAt {A : Type 0} (g : Got A) (s : List ℕ) (end : ℕ) : Type 0 where
  pub value : A
  pub is : g ≡ got value (drop end s)
  pub within : end ≤ length s

-- the fault a stands at the offset k of s
pub record FaultAt {A : Type 0} (g : Got A) (s : List ℕ) (a : Answer) (k : ℕ) : Type 0 where
  pub is : g ≡ fault a (drop k s)
  pub within : k ≤ length s

-- the field that the rules read; its set is the stations that pass
abbrev pub IsField : Got (Option ℕ) → (Option ℕ → ℕ → Bool) → List ℕ → Result Stations Fault → Type 0
IsField g passes s (Ok f) = (h : GotAt g s f.end) × (f.set ≡ set_of 64 (passes h.value))
IsField g passes s (Err f) = FaultAt g s f.answer f.at

-- the stations that may follow the station of a record
abbrev pub next_of : Entry → ℕ
next_of e = set_of 64 (λ j. allows e.next j && fixes e.fixed j)

-- the stations that may come before it
abbrev pub prev_of : Entry → ℕ
prev_of e = set_of 64 (allows e.prev)

-- the record that the rules read
abbrev pub IsRecord : Got Entry → List ℕ → Result Record Fault → Type 0
IsRecord g s (Ok r) = (h : GotAt g s r.end) × (r.next ≡ next_of h.value) × (r.prev ≡ prev_of h.value)
IsRecord g s (Err f) = FaultAt g s f.answer f.at

-- what opening hands back, where what is read without a fault is taken
module _ {A : Type 0} where
  abbrev pub opening : Result A Fault → (A → Opened) → Opened
  opening (Ok a) taken = taken a
  opening (Err f) taken = refused f.answer f.at

-- the words from n on are empty
abbrev pub EmptyFrom : ℕ → List ℕ → Type 0
EmptyFrom n t = (k : ℕ) → n ≤ k → k < 64 → get_or t k 0 ≡ 0

-- the leg i→j stands, where the words say which stations may follow each station and which may not come before it
abbrev pub legal : List ℕ → List ℕ → ℕ → ℕ → Bool
legal next barred i j = not (eqb i j) && (has (get_or next i 0) j && not (has (get_or barred j 0) i))
