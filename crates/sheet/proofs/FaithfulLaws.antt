-- The sheets of good work states: each is of bytes, is taken, and says n and the table, and nothing more. Assumes nothing.
use mathlib.Core.Path.{◌≡◌, sym, ap, ap₂, ◌∙◌}
use mathlib.Core.List.{List}
use Prim.Native.Nat.{ℕ, ◌≤◌}
use native.Mathlib.Omega.{arith}
use lib.ListN.{take}
use Rattle.circuit.specs.declared.state.Work.{Work}
use Rattle.circuit.specs.Card.{card}
use Rattle.circuit.specs.State.{rows_of, Good}
use Rattle.circuit.proofs.FillLaws.{fill_front}
use Rattle.sheet.specs.declared.Opened.{Opened}
use Rattle.sheet.specs.Layout.{Bytes, bytes_of, WellFormed}
use Rattle.sheet.specs.Open.{taken, open_call}
use Rattle.sheet.specs.Write.{page_of, sheet_of, write_call, write_bytes, Whole, Faithful}
use Rattle.sheet.proofs.GrammarLaws.{sheet_taken, sheet_bytes}
use Rattle.sheet.proofs.PageLaws.{page_well, page_table}

-- the page of a good state is well-formed
good_well : (w : Work) → Good w → WellFormed (page_of w.n (rows_of w))
good_well w g = page_well w.n (rows_of w) g.most g.table g.two

-- The sheet of a good state is of bytes.
pub written_bytes : (w : Work) → Good w → Bytes (sheet_of w)
unfolding sheet_of
written_bytes w g = sheet_bytes (page_of w.n (rows_of w)) (good_well w g)

fills : (w : Work) (buffer : List ℕ) → (write_call w buffer).answer ≡ card 0 → take (write_call w buffer).len (write_bytes w buffer) ≡ sheet_of w
fills w buffer = fill_front w (sheet_of w) buffer

opens : (w : Work) (limit : ℕ) → Whole w → 1 ≤ limit → limit ≤ 64 → open_call (sheet_of w) limit ≡ taken w.n (rows_of w) limit
unfolding sheet_of page_of
opens w limit h lo hi =
    let g = h.good in
    sheet_taken (page_of w.n (rows_of w)) limit (good_well w g) lo hi
    ∙ ap (λ (t : List ℕ). taken w.n t limit) (page_table w.n (rows_of w) g.most g.table h.long)

-- equal sheets are opened to equal states
apart : (v w : Work) → Whole v → Whole w → sheet_of v ≡ sheet_of w → (v.n ≡ w.n) × (rows_of v ≡ rows_of w)
apart v w g h e =
    let same : taken v.n (rows_of v) 64 ≡ taken w.n (rows_of w) 64 =
    sym (opens v 64 g (omega arith) (omega arith)) ∙ ap (λ (s : List ℕ). open_call s 64) e ∙ opens w 64 h (omega arith) (omega arith) in
    (ap (λ (o : Opened). o.work.n) same, ap (λ (o : Opened). rows_of o.work) same)

alike : (v w : Work) → v.n ≡ w.n → rows_of v ≡ rows_of w → sheet_of v ≡ sheet_of w
unfolding sheet_of
alike v w n t = ap₂ (λ (n : ℕ) (t : List ℕ). bytes_of (page_of n t)) n t

-- The sheet of a good state is taken under any good limit, and gives the same n and table; equal sheets are of the same n and table, and only
-- n and the table say which sheet it is.
pub faithful : Faithful
faithful = record { fills = fills; opens = opens; apart = apart; alike = alike }
