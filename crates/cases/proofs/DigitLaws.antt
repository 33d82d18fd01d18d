-- Digits are ASCII, so they are text.
use Rattle.std.specs.Prelude.{ℕ, zero, suc, ◌<◌, replicate, refl, Result, Ok, Err, IsOk, MatchResult}
use Rattle.std.specs.List.{slice_index}
use Rattle.std.proofs.Common.{lit<}

-- bytes that are still 0
pub zeros_ascii : (n i : ℕ) → slice_index (replicate n 0) i < 128
zeros_ascii zero i = lit< tt
zeros_ascii (suc n) zero = lit< tt
zeros_ascii (suc n) (suc i) = zeros_ascii n i

-- what nothing refuses is taken
pub taken_whole : {T E : Type 0} (r : Result T E) (P : T → Type 0) (Q : E → Type 0) → MatchResult r P Q → ((e : E) → Q e → ⊥) → IsOk r
taken_whole (Ok x) P Q h f = refl
taken_whole (Err e) P Q h f = absurd (f e h)
