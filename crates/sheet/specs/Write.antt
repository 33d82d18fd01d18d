-- The sheet of what is left, sent back (the struck sheet): the page that a table gives, its bytes by the layout, and the call that writes them.
use Rattle.std.specs.Prelude.{◌≡◌, cond, List, ℕ, suc, ◌-◌, ◌≤◌, eqb, length, take}
use Rattle.std.proofs.Math.Option.{none, some}
use Rattle.bitset.specs.Sets.{has, size, first}
use Rattle.bitset.specs.Upto.{upto, row}
use Rattle.circuit.specs.declared.state.Work.{Work}
use Rattle.circuit.specs.declared.filled.Filled.{Filled}
use Rattle.circuit.specs.Card.{card}
use Rattle.circuit.specs.State.{rows_of, Good}
use Rattle.circuit.specs.Fill.{fill_call, fill_bytes}
use Rattle.sheet.specs.Layout.{Entry, free, Page, bytes_of}
use Rattle.sheet.specs.Open.{taken, open_call}

-- the record of a station of n whose legs are w: where all n - 1 stand, no field; otherwise, where exactly one stands, that station
-- fixed; otherwise the next set. A previous set is never written.
unfoldable pub entry_of : ℕ → ℕ → Entry
entry_of n w =
    let legs = size n w in
    let only = first n (has w) in
    cond (eqb legs (n - 1)) free
    (cond (eqb legs 1) (record { next = none; prev = none; fixed = some (suc only) })
    (record { next = some w; prev = none; fixed = none }))

-- the page of a table of n stations
unfoldable pub page_of : ℕ → List ℕ → Page
page_of n t = record { stations = n; entries = upto n (λ i. entry_of n (row t i)) }

-- the sheet of a work state: of its n and its table alone
unfoldable pub sheet_of : Work → List ℕ
sheet_of w = bytes_of (page_of w.n (rows_of w))

-- what writing the sheet hands back
abbrev pub write_call : Work → List ℕ → Filled
write_call w buffer = fill_call w (sheet_of w) buffer

-- and what it leaves in the buffer
abbrev pub write_bytes : Work → List ℕ → List ℕ
write_bytes w buffer = fill_bytes w (sheet_of w) buffer

-- ---- what the sheet says of the table

-- a good work state, whose table has its 64 words
pub record Whole (w : Work) : Type 0 where
  pub good : Good w
  pub long : length (rows_of w) ≡ 64

-- the sheets of good work states
pub record Faithful : Type 0 where
  -- the bytes that a taken call fills are the sheet
  pub fills : (w : Work) (buffer : List ℕ) → (write_call w buffer).answer ≡ card 0 → take (write_call w buffer).len (write_bytes w buffer) ≡ sheet_of w
  -- opening the sheet with any good limit is taken, and gives the same n and table
  pub opens : (w : Work) (limit : ℕ) → Whole w → 1 ≤ limit → limit ≤ 64
      → open_call (sheet_of w) limit ≡ taken w.n (rows_of w) limit
  -- equal bytes are of the same n and table: different tables, or different n, give different bytes
  pub apart : (v w : Work) → Whole v → Whole w → sheet_of v ≡ sheet_of w → (v.n ≡ w.n) × (rows_of v ≡ rows_of w)
  -- equal n and tables give equal bytes, whatever place, mark, end and limit are
  pub alike : (v w : Work) → v.n ≡ w.n → rows_of v ≡ rows_of w → sheet_of v ≡ sheet_of w
