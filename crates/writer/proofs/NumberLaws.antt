-- Numbers in decimal: of one digit, of more, and how many digits. Assumes nothing.
use mathlib.Core.Path.{◌≡◌, refl, sym, ap, ◌∙◌}
use mathlib.Core.Logic.{⊎_elim}
use mathlib.Core.Bool.{cond}
use mathlib.Core.List.{List, ◌++◌}
use Prim.Native.Nat.{ℕ, zero, suc, ◌+◌, ◌/◌, ◌%◌, ◌^◌, ◌≤◌, ◌<◌}
use native.Mathlib.Omega.{arith}
use lib.Dec.{ltb}
use lib.ListN.{length, length-append}
use borrow.Author.Tests.{lt-ltb, le-ltb}
use Rattle.bitset.proofs.BoolLaws.{cond_true, cond_false}
use Rattle.bitset.proofs.QuantLaws.{below?}
use Rattle.writer.specs.Text.{digit, digits, decimal}

-- a number up to f and up to g has the same digits either way
digits_same : (f g x : ℕ) → x ≤ f → x ≤ g → digits f x ≡ digits g x
unfolding digits
digits_same zero zero x a b = refl
digits_same zero (suc g) x a b = sym (cond_true _ _ (lt-ltb x 10 (omega arith)))
digits_same (suc f) zero x a b = cond_true _ _ (lt-ltb x 10 (omega arith))
digits_same (suc f) (suc g) x a b = ap (λ (h : List ℕ). cond (ltb x 10) (digit x) (h ++ digit (x % 10))) (digits_same f g (x / 10) (omega arith) (omega arith))

pub decimal_one : (x : ℕ) → x < 10 → decimal x ≡ digit x
unfolding decimal digits
decimal_one zero l = refl
decimal_one (suc x) l = cond_true _ _ (lt-ltb (suc x) 10 l)

pub decimal_more : (x : ℕ) → 10 ≤ x → decimal x ≡ decimal (x / 10) ++ digit (x % 10)
unfolding decimal digits
decimal_more zero g = absurd (omega arith)
decimal_more (suc x) g =
    cond_false _ (digits x (suc x / 10) ++ digit (suc x % 10)) (le-ltb (suc x) 10 g)
    ∙ ap (λ (h : List ℕ). h ++ digit (suc x % 10)) (digits_same x (suc x / 10) (suc x / 10) (omega arith) (omega arith))

pub decimal_more_length : (x : ℕ) → 10 ≤ x → length (decimal x) ≡ length (decimal (x / 10)) + 1
decimal_more_length x g = ap length (decimal_more x g) ∙ length-append (decimal (x / 10)) (digit (x % 10))

-- a number below 10 ^ k has at most k digits
pub decimal_length : (k x : ℕ) → x < 10 ^ suc k → length (decimal x) ≤ suc k
decimal_length zero x l = omega (arith, ap length (decimal_one x (omega arith)))
decimal_length (suc k) x l =
    ⊎_elim (λ (s : x < 10). omega (arith, ap length (decimal_one x s)))
    (λ (g : 10 ≤ x). omega (arith, decimal_more_length x g, decimal_length k (x / 10) (omega arith)))
    (below? x 10)

-- of two digits
pub decimal_two : (x : ℕ) → 10 ≤ x → x < 100 → decimal x ≡ digit (x / 10) ++ digit (x % 10)
decimal_two x g l = decimal_more x g ∙ ap (λ (h : List ℕ). h ++ digit (x % 10)) (decimal_one (x / 10) (omega arith))
