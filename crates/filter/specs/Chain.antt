-- The chain step (W-201). Every round drives the compulsory legs, so it drives their chains, and it closes no loop before it has all stations.
use Rattle.std.specs.Prelude.{Bool, cond, ◌&&◌, ◌||◌, List, ℕ, suc, pred, ◌^◌, eqb, ltb, get_or}
use Rattle.bitset.specs.Sets.{any, first, size}
use Rattle.bitset.specs.Upto.{upto, row}
use Rattle.circuit.specs.declared.verdict.Verdict.{Verdict}
use Rattle.circuit.specs.Legs.{leg, col, columns, table_of, without}
use Rattle.circuit.specs.Round.{iter}
use Rattle.circuit.specs.Verdict.{says_none, leaves}

-- the leg i→j is compulsory: the only leg out of i, or the only leg into j; c is the list of the columns
unfoldable pub compulsory : List ℕ → List ℕ → ℕ → ℕ → Bool
compulsory t c i j = eqb (row t i) (2 ^ j) || eqb (row c j) (2 ^ i)

-- the table of the compulsory legs
unfoldable pub compulsories : ℕ → List ℕ → List ℕ
compulsories n t = let c = columns n t in table_of n (compulsory t c)

-- ---- of a table m, that of the compulsory legs

-- two legs leave or enter one station
unfoldable pub forked : ℕ → List ℕ → Bool
forked n m = any n (λ i. ltb 1 (size n (row m i)) || ltb 1 (size n (col n m i)))

-- the station that the leg out of each station leads to; n, where there is none
unfoldable pub nexts : ℕ → List ℕ → List ℕ
nexts n m = upto n (λ i. first n (leg m i))

-- where k legs lead from a, by the list s of the next stations; n, where they end before
abbrev pub along : ℕ → List ℕ → ℕ → ℕ → ℕ
along n s k a = iter (λ i. get_or s i n) k a

-- 1 to f legs lead from a to b
unfoldable pub joined : ℕ → List ℕ → ℕ → ℕ → ℕ → Bool
joined n s f a b = any f (λ k. eqb (along n s (suc k) a) b)

-- legs close a loop over fewer than all stations: it has n - 1 legs at most
unfoldable pub looped : ℕ → List ℕ → Bool
looped n s = any n (λ a. joined n s (pred n) a a)

-- the leg b→a closes a chain from a to b that can't be lengthened and covers fewer than all stations: no leg enters a, none leaves b, and the chain has
-- n - 2 legs at most
unfoldable pub closes : ℕ → List ℕ → List ℕ → ℕ → ℕ → Bool
closes n m s b a =
    let chain = joined n s (pred (pred n)) a b in
    eqb (col n m a) 0 && eqb (row m b) 0 && chain

-- ---- the chain step

unfoldable pub chain : ℕ → List ℕ → Verdict
chain n t =
    let m = compulsories n t in
    let s = nexts n m in
    let left = leaves (without n t (closes n m s)) in
    let loop = looped n s in
    cond (forked n m || loop) (says_none t) left
