-- Columns: the table transposed, one binary digit after the other. Assumes nothing.
use mathlib.Core.Path.{◌≡◌, refl, sym, ap, ap₂, ◌∙◌}
use mathlib.Core.Logic.{◌⊎◌, inl, inr, ◌≢◌, ⊎_elim}
use mathlib.Core.Bool.{Bool, true, false, not, cond, ◌&&◌, ◌||◌}
use mathlib.Core.List.{List}
use Prim.Native.Nat.{ℕ, suc, ◌+◌, ◌-◌, ◌*◌, ◌/◌, ◌%◌, ◌^◌, ◌≤◌, ◌<◌}
use native.Mathlib.Nat.{lt_of_lt_of_le, mul-le-mul_right, mul-one, add-zero}
use native.Mathlib.Omega.{arith}
use lib.Bits.{bit_and, bit_or, and_le_r, or_lt}
use lib.Dec.{eqb}
use lib.ListN.{length, set, length-set, get_or-eq_default}
use lib.Pow.{pow_pos, pow-add, pow_mono, high}
use lib.Seq.{get_or-set_same, get_or-set_other}
use borrow.Author.Tests.{lt-ltb, le-ltb, le-leb, eqb-true, eqb-false}
use Rattle.bitset.specs.Sets.{bit, has, set_of}
use Rattle.bitset.specs.Upto.{upto, row}
use Rattle.bitset.proofs.BoolLaws.{cases, taut3, cond_true, cond_false}
use Rattle.bitset.proofs.HasLaws.{has_zero, has_and, has_or, has_not, has_above, ext}
use Rattle.bitset.proofs.QuantLaws.{below?}
use Rattle.bitset.proofs.SetLaws.{has_set_of, eq_set_of, set_of_lt, set_of_above, set_of_ext}
use Rattle.bitset.proofs.MachineLaws.{has_shl, has_shr}
use Rattle.bitset.proofs.UptoLaws.{length_upto, get_d_upto, upto_cong, upto_of}
use Rattle.circuit.specs.Legs.{leg, col, columns}
use Rattle.circuit.specs.inner.Tables.{Square}
use Rattle.circuit.specs.inner.Columns.{Corner, first_word, clear_at, low_word, high_word, Pair, Pairs, Swapped}

-- ---- two words that swap quarters

-- the bits of a at the mask, and those of b elsewhere
picked : (m a b : ℕ) → m < 2 ^ 64 → bit_or (bit_and a m) (bit_and b ((2 ^ 64 - 1) - m)) ≡ set_of 64 (λ j. cond (has m j) (has a j) (has b j))
picked m a b h =
    eq_set_of 64 (bit_or (bit_and a m) (bit_and b ((2 ^ 64 - 1) - m))) _
    (or_lt 64 (bit_and a m) (bit_and b ((2 ^ 64 - 1) - m)) (omega (arith, and_le_r a m)) (omega (arith, and_le_r b ((2 ^ 64 - 1) - m))))
    (λ j l. simp (has_or, has_and, has_not 64)
    (taut3 (λ x y z. y && x || z && not x) (λ x y z. cond x y z) refl (has m j) (has a j) (has b j)))

pub low_is : (h m lo hi : ℕ) → m < 2 ^ 64 → bit_or (bit_and lo m) (bit_and ((hi * 2 ^ h) % 2 ^ 64) ((2 ^ 64 - 1) - m)) ≡ low_word h m lo hi
unfolding low_word
low_is h m lo hi l =
    picked m lo ((hi * 2 ^ h) % 2 ^ 64) l
    ∙ set_of_ext 64 _ _ (λ j d. ap (λ (x : Bool). cond (has m j) (has lo j) x) (has_shl 64 hi h j d))

pub high_is : (h m lo hi : ℕ) → m < 2 ^ 64 → bit_or (bit_and (lo / 2 ^ h) m) (bit_and hi ((2 ^ 64 - 1) - m)) ≡ high_word h m lo hi
unfolding high_word
high_is h m lo hi l =
    picked m (lo / 2 ^ h) hi l ∙ set_of_ext 64 _ _ (λ j d. ap (λ (x : Bool). cond (has m j) x (has hi j)) (has_shr lo h j))

-- ---- numbers by their digit b: k without it, or k + h with it, h = 2 ^ b

abbrev up : ℕ → Bool → ℕ → ℕ
up h true k = k + h
up h false k = k

up_lt : (d : Bool) {h r : ℕ} → r < h → up h d r < 2 * h
up_lt true l = omega arith
up_lt false l = omega arith

up_low : (d : Bool) (h q r : ℕ) → q * (2 * h) + up h d r ≡ up h d (q * (2 * h) + r)
up_low true h q r = omega arith
up_low false h q r = refl

up_high : (d : Bool) (h q r : ℕ) → up 1 d (2 * q) * h + r ≡ up h d (q * (2 * h) + r)
up_high true h q r = omega arith
up_high false h q r = omega arith

halves : (x : ℕ) → (d : Bool) × (x ≡ up 1 d (2 * (x / 2)))
halves x = ⊎_elim (λ l. (false, omega arith)) (λ l. (true, omega arith)) (below? (x % 2) 1)

odd : (d : Bool) (q : ℕ) → bit (up 1 d (2 * q) % 2) ≡ d
unfolding bit
odd true q = let e : (2 * q + 1) % 2 ≡ 1 = omega arith in ap bit e
odd false q = let e : (2 * q) % 2 ≡ 0 = omega arith in ap bit e

-- the mask says that digit b is clear
clear_up : (b p s : ℕ) (d : Bool) → s < 2 ^ b → up (2 ^ b) d (p * (2 * 2 ^ b) + s) < 64 → has (clear_at b) (up (2 ^ b) d (p * (2 * 2 ^ b) + s)) ≡ not d
unfolding clear_at has
clear_up b p s d ds l =
    has_set_of 64 (λ j. not (has j b)) (up (2 ^ b) d (p * (2 * 2 ^ b) + s)) l
    ∙ ap (λ (x : ℕ). not (bit (x % 2))) (ap (λ (x : ℕ). x / 2 ^ b) (sym (up_high d (2 ^ b) p s)) ∙ high (up 1 d (2 * p)) b ds) ∙ ap not (odd d p)

-- A PAIR: digit b of the number of the word and digit b of the number of the bit have changed places
pair_bits : (b x p s : ℕ) {a c : List ℕ} → Pair (2 ^ b) (clear_at b) x a c → s < 2 ^ b → p * (2 * 2 ^ b) + s + 2 ^ b < 64
    → (d e : Bool) → leg c (up (2 ^ b) d x) (up (2 ^ b) e (p * (2 * 2 ^ b) + s)) ≡ leg a (up (2 ^ b) e x) (up (2 ^ b) d (p * (2 * 2 ^ b) + s))
unfolding leg low_word high_word
pair_bits b x p s {a} {c} f ds l = bits
  where
    y : ℕ
    y = p * (2 * 2 ^ b) + s

    clear : has (clear_at b) y ≡ true
    clear = clear_up b p s false ds (omega arith)

    full : has (clear_at b) (y + 2 ^ b) ≡ false
    full = clear_up b p s true ds l

    bits : (d e : Bool) → leg c (up (2 ^ b) d x) (up (2 ^ b) e y) ≡ leg a (up (2 ^ b) e x) (up (2 ^ b) d y)
    bits false false = ap (λ (z : ℕ). has z y) f.low ∙ has_set_of 64 _ y (omega arith) ∙ cond_true _ _ clear
    bits false true =
        let e : (y + 2 ^ b) - 2 ^ b ≡ y = omega arith in
        ap (λ (z : ℕ). has z (y + 2 ^ b)) f.low ∙ has_set_of 64 _ (y + 2 ^ b) l ∙ cond_false _ _ full
        ∙ ap₂ (λ (t : Bool) (k : ℕ). t && has (row a (x + 2 ^ b)) k) (le-leb (2 ^ b) (y + 2 ^ b) (omega arith)) e
    bits true false =
        let e : 2 ^ b + y ≡ y + 2 ^ b = omega arith in
        ap (λ (z : ℕ). has z y) f.high ∙ has_set_of 64 _ y (omega arith) ∙ cond_true _ _ clear ∙ ap (has (row a x)) e
    bits true true = ap (λ (z : ℕ). has z (y + 2 ^ b)) f.high ∙ has_set_of 64 _ (y + 2 ^ b) l ∙ cond_false _ _ full

-- ---- the pairs of a square, and the squares

-- a pair that is done stays so, where its words are what they were
pair_moves : {h m k : ℕ} {a b c d : List ℕ} → row a k ≡ row c k → row a (k + h) ≡ row c (k + h) → row b k ≡ row d k → row b (k + h) ≡ row d (k + h) → Pair h m k c d → Pair h m k a b
pair_moves {h} {m} {k} e f g i p =
    record {
      low = g ∙ p.low ∙ sym (ap₂ (low_word h m) e f);
      high = i ∙ p.high ∙ sym (ap₂ (high_word h m) e f);
    }

-- a word that is stored fits
set_small : (l : List ℕ) (i v k : ℕ) → i < length l → v < 2 ^ 64 → row l k < 2 ^ 64 → row (set l i v) k < 2 ^ 64
set_small l i v k d hv hl =
    ⊎_elim (λ q. let e = eqb-true k i q in rw (e, get_or-set_same l i v 0 d) hv) (λ q. rw (get_or-set_other l i k v 0 (eqb-false k i q)) hl) (cases (eqb k i))

pub pairs_none : (h m at : ℕ) (a : List ℕ) → length a ≡ 64 → Pairs h m at 0 a a
pairs_none h m at a e = record { len = e; small = λ k f. f; done = λ i l. absurd (omega arith); rest = λ k f. refl }

-- one pair more: two stores
pub pairs_more : {h m at c : ℕ} {a b : List ℕ} (x y : ℕ) → Pairs h m at c a b → c < h → at + c + h < 64
    → x ≡ low_word h m (row b (at + c)) (row b (at + c + h)) → y ≡ high_word h m (row b (at + c)) (row b (at + c + h))
    → Pairs h m at (c + 1) a (set (set b (at + c) x) (at + c + h) y)
unfolding low_word high_word
pairs_more {h} {m} {at} {c} {a} {b} x y p l fits ex ey =
    record {
      len = length-set (set b k x) (k + h) y ∙ length-set b k x ∙ p.len;
      small = λ j f. set_small (set b k x) (k + h) y j in_high (rw ey (set_of_lt 64 _)) (set_small b k x j in_low (rw ex (set_of_lt 64 _)) (p.small j f));
      done = λ i d. ⊎_elim (old i) (λ g. let e : i ≡ c = omega arith in rw e new) (below? i c);
      rest = λ j f. let g = f c (omega arith) in kept j g.0 g.1 ∙ p.rest j (λ i d. f i (omega arith));
    }
  where
    k : ℕ
    k = at + c

    after : List ℕ
    after = set (set b k x) (k + h) y

    in_low : k < length b
    in_low = omega (arith, p.len)

    in_high : k + h < length (set b k x)
    in_high = omega (arith, length-set b k x, p.len)

    kept : (j : ℕ) → j ≢ k → j ≢ k + h → row after j ≡ row b j
    kept j f g = get_or-set_other (set b k x) (k + h) j y 0 g ∙ get_or-set_other b k j x 0 f

    old : (i : ℕ) → i < c → Pair h m (at + i) a after
    old i d = pair_moves refl refl (kept (at + i) (λ e. omega arith) (λ e. omega arith)) (kept (at + i + h) (λ e. omega arith) (λ e. omega arith)) (p.done i d)

    new : Pair h m k a after
    new =
        pair_moves {c = b} {d = after} (sym (p.rest k (λ u v. (λ e. omega arith, λ e. omega arith)))) (sym (p.rest (k + h) (λ u v. (λ e. omega arith, λ e. omega arith)))) refl refl
        (record {
          low = get_or-set_other (set b k x) (k + h) k y 0 (λ e. omega arith) ∙ get_or-set_same b k x 0 in_low ∙ ex;
          high = get_or-set_same (set b k x) (k + h) y 0 in_high ∙ ey;
        })

pub squares_none : (h m : ℕ) (a : List ℕ) → length a ≡ 64 → Swapped h m 0 a a
squares_none h m a e = record { len = e; small = λ k f. f; done = λ q i l d. absurd (omega arith); rest = λ k f. refl }

-- one square more
pub squares_more : {h m p : ℕ} {a b c : List ℕ} → Swapped h m p a b → Pairs h m (p * (2 * h)) h b c → Swapped h m (p + 1) a c
squares_more {h} {m} {p} {a} {b} {c} s t =
    record {
      len = t.len;
      small = λ k f. t.small k (s.small k f);
      done = λ q i l d. ⊎_elim (old q i d) (λ g. let e : q ≡ p = omega arith in rw e (new i d)) (below? q p);
      rest = λ k f. t.rest k (λ u v. (λ e. omega arith, λ e. omega arith)) ∙ s.rest k (omega arith);
    }
  where
    old : (q i : ℕ) → i < h → q < p → Pair h m (q * (2 * h) + i) a c
    old q i d l =
        let f : (q + 1) * (2 * h) ≤ p * (2 * h) = mul-le-mul_right (2 * h) (omega arith) in
        pair_moves refl refl (t.rest (q * (2 * h) + i) (λ u v. (λ e. omega arith, λ e. omega arith))) (t.rest (q * (2 * h) + i + h) (λ u v. (λ e. omega arith, λ e. omega arith))) (s.done q i l d)

    new : (i : ℕ) → i < h → Pair h m (p * (2 * h) + i) a c
    new i d = pair_moves (sym (s.rest (p * (2 * h) + i) (omega arith))) (sym (s.rest (p * (2 * h) + i + h) (omega arith))) refl refl (t.done i d)

-- where they are
pub square_fits : (h : ℕ) {p n : ℕ} → p < n → n * (2 * h) ≤ 64 → p * (2 * h) + 2 * h ≤ 64
square_fits h {p} {n} l f = let g : (p + 1) * (2 * h) ≤ n * (2 * h) = mul-le-mul_right (2 * h) (omega arith) in omega arith

-- ---- the table with the digits from some place on swapped

-- `Turned t h m n a`: words are counted as q * h + r, q < m, and bits as p * h + s, p < n; in a, q and p have changed places
pub record Turned (t : List ℕ) (h m n : ℕ) (a : List ℕ) : Type 0 where
  pub len : length a ≡ 64
  pub small : (k : ℕ) → row a k < 2 ^ 64
  pub bits : (q r p s : ℕ) → q < m → r < h → p < n → s < h → leg a (q * h + r) (p * h + s) ≡ leg t (p * h + r) (q * h + s)
  pub rest : (k : ℕ) → m * h ≤ k → row a k ≡ row t k

-- THE STEP: swapping the quarters of the squares of 2 * 2 ^ b swaps digit b
module _ (b m n : ℕ) (t a c : List ℕ) (fits : n * (2 * 2 ^ b) ≤ 64) (w : Swapped (2 ^ b) (clear_at b) m a c) (u : Turned t (2 * 2 ^ b) m n a) where
  turned_at : (d e : Bool) (q r p s : ℕ) → q < m → r < 2 ^ b → p < n → s < 2 ^ b
      → leg c (up 1 d (2 * q) * 2 ^ b + r) (up 1 e (2 * p) * 2 ^ b + s) ≡ leg t (up 1 e (2 * p) * 2 ^ b + r) (up 1 d (2 * q) * 2 ^ b + s)
  turned_at d e q r p s lq dr lp ds =
      ap₂ (leg c) (up_high d (2 ^ b) q r) (up_high e (2 ^ b) p s)
      ∙ pair_bits b (q * (2 * 2 ^ b) + r) p s (w.done q r lq dr) ds (omega (arith, square_fits (2 ^ b) lp fits)) d e
      ∙ sym (ap₂ (leg a) (up_low e (2 ^ b) q r) (up_low d (2 ^ b) p s))
      ∙ u.bits q (up (2 ^ b) e r) p (up (2 ^ b) d s) lq (up_lt e dr) lp (up_lt d ds)
      ∙ ap₂ (leg t) (up_low e (2 ^ b) p r) (up_low d (2 ^ b) q s)
      ∙ sym (ap₂ (leg t) (up_high e (2 ^ b) p r) (up_high d (2 ^ b) q s))

  turned_more : Turned t (2 ^ b) (2 * m) (2 * n) c
  turned_more =
      record {
        len = w.len;
        small = λ k. w.small k (u.small k);
        bits = λ x r y s lx dr ly ds. let i = halves x in let j = halves y in rw (i.1, j.1) (turned_at i.0 j.0 (x / 2) r (y / 2) s (omega arith) dr (omega arith) ds);
        rest = λ k g. w.rest k (omega arith) ∙ u.rest k (omega arith);
      }

-- the digits from b on, of numbers of `used` digits
abbrev pub TurnedTo : List ℕ → ℕ → ℕ → List ℕ → Type 0
TurnedTo t used b a = Turned t (2 ^ b) (2 ^ (used - b)) (2 ^ (6 - b)) a

double : (k : ℕ) → 2 ^ suc k ≡ 2 * 2 ^ k
double k = omega arith

pub squares_fit : (k b : ℕ) → k + suc b ≤ 6 → 2 ^ k * (2 * 2 ^ b) ≤ 64
squares_fit k b l = rw (← double b, ← pow-add 2 k (suc b)) (pow_mono {j = 6} l)

pub turned_down : {used b x k : ℕ} {t a c : List ℕ} → b < used → used ≤ 6 → x ≡ suc b → k ≡ used - suc b → TurnedTo t used x a → Swapped (2 ^ b) (clear_at b) (2 ^ k) a c → TurnedTo t used b c
turned_down {used} {b} {x} {k} {t} {a} {c} l most ex ek u w =
    let e : used - b ≡ suc k = omega arith in
    let f : 6 - b ≡ suc (6 - suc b) = omega arith in
    rw (e, f, double k, double (6 - suc b)) (turned_more b (2 ^ k) (2 ^ (6 - suc b)) t a c (squares_fit (6 - suc b) b (omega arith)) w (rw (ex, double b, sym ek) at u))

-- ---- words with all bits in the corner, before and after

module _ (n : ℕ) (t : List ℕ) (most : n ≤ 64) (c : Corner n t) where
  beyond_zero : (k : ℕ) → n ≤ k → row t k ≡ 0
  beyond_zero k g = ⊎_elim (c.beyond k g) (λ d. get_or-eq_default t 0 (omega (arith, c.len))) (below? k 64)

  corner_small : (k : ℕ) → row t k < 2 ^ 64
  corner_small k =
      ⊎_elim (λ l. lt_of_lt_of_le (c.square k l) (pow_mono {j = 64} most)) (λ g. rw (beyond_zero k g) (pow_pos 64)) (below? k n)

  corner_none : (k j : ℕ) → (n ≤ k) ⊎ (n ≤ j) → leg t k j ≡ false
  unfolding leg
  corner_none k j o =
      ⊎_elim (λ (l : k < n). has_above n (row t k) j (c.square k l) (⊎_elim (λ g. absurd (omega arith)) (λ g. g) o))
      (λ (g : n ≤ k). ap (λ (w : ℕ). has w j) (beyond_zero k g) ∙ has_zero j) (below? k n)

  both_none : (i j k l : ℕ) → (n ≤ i) ⊎ (n ≤ j) → (n ≤ k) ⊎ (n ≤ l) → leg t i j ≡ leg t k l
  both_none i j k l f g = corner_none i j f ∙ sym (corner_none k l g)

  -- at the start: the digits of the numbers below n are all below h
  pub turned_none : (h m p : ℕ) → n ≤ h → Turned t h m p t
  turned_none h m p g =
      record {
        len = c.len;
        small = corner_small;
        bits = λ q r p s lq dr lp ds. ⊎_elim
            (λ l. ⊎_elim (λ k. let e : q ≡ p = omega arith in rw e refl) (λ k. both_none (q * h + r) (p * h + s) (p * h + r) (q * h + s) (inr (far p s k)) (inl (far p r k))) (below? p 1))
            (λ k. both_none (q * h + r) (p * h + s) (p * h + r) (q * h + s) (inl (far q r k)) (inr (far q s k))) (below? q 1);
        rest = λ k g. refl;
      }
    where
      far : (q r : ℕ) → 1 ≤ q → n ≤ q * h + r
      far q r l = omega (arith, mul-le-mul_right h l)

  -- at the end: the columns
  pub turned_columns : (m : ℕ) (a : List ℕ) → n ≤ m → Turned t 1 m 64 a → a ≡ columns n t
  unfolding leg col
  turned_columns m a g u =
      upto_of 64 (col n t) 0 a u.len (λ k l.
      ext 64 (row a k) (col n t k) (u.small k) (lt_of_lt_of_le (set_of_lt n (λ i. leg t i k)) (pow_mono {j = 64} most)) (λ i d. turned k i d ∙ column k i))
    where
      turned : (k i : ℕ) → i < 64 → leg a k i ≡ leg t i k
      turned k i d =
          ⊎_elim (λ (l : k < m). simp (mul-one, add-zero) at (u.bits k 0 i 0 l (omega arith) d (omega arith)))
          (λ (l : m ≤ k). ap (λ (w : ℕ). has w i) (u.rest k (omega arith)) ∙ both_none k i i k (inl (omega arith)) (inr (omega arith))) (below? k m)

      column : (k i : ℕ) → leg t i k ≡ has (set_of n (λ i. leg t i k)) i
      column k i =
          ⊎_elim (λ (l : i < n). sym (has_set_of n (λ i. leg t i k) i l))
          (λ (l : n ≤ i). corner_none i k (inl l) ∙ sym (set_of_above n (λ i. leg t i k) i l)) (below? i n)

-- ---- the first words of a table

module _ (n : ℕ) (t : List ℕ) where
  pub first_in : (i : ℕ) → i < n → first_word n t i ≡ row t i
  unfolding first_word
  first_in i l = cond_true (row t i) 0 (lt-ltb i n l)

  pub first_out : (i : ℕ) → n ≤ i → first_word n t i ≡ 0
  unfolding first_word
  first_out i g = cond_false (row t i) 0 (le-ltb i n g)

  first_row : (i : ℕ) → n ≤ 64 → i < n → row (upto 64 (first_word n t)) i ≡ row t i
  first_row i le l = get_d_upto 64 (first_word n t) 0 i (lt_of_lt_of_le l le) ∙ first_in i l

  pub first_corner : n ≤ 64 → Square n t → Corner n (upto 64 (first_word n t))
  first_corner le sq =
      record {
        len = length_upto 64 (first_word n t);
        square = λ i l. rw (first_row i le l) (sq i l);
        beyond = λ i g d. get_d_upto 64 (first_word n t) 0 i d ∙ first_out i g;
      }

  -- have its columns
  pub first_columns : n ≤ 64 → columns n (upto 64 (first_word n t)) ≡ columns n t
  unfolding col leg
  first_columns le =
      upto_cong 64 (col n (upto 64 (first_word n t))) (col n t) (λ j _. set_of_ext n _ _ (λ i l. ap (λ (w : ℕ). has w j) (first_row i le l)))
