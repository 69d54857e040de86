-- The digits that `decimal` writes, read again: a number of at most 65535 comes back, without leading zero, and no shorter text of digits
-- has its value. Assumes nothing.
use Rattle.std.specs.Prelude.{if◌then◌else◌, Some}
use mathlib.Core.Path.{◌≡◌, refl, sym, ap, ◌∙◌}
use mathlib.Core.List.{[], ◌∷◌, ◌++◌}
use mathlib.Core.Bool.{Bool, true, false, and-eq-true_iff}
use Prim.Native.Nat.{ℕ, zero, suc, ◌+◌, ◌-◌, ◌*◌, ◌/◌, ◌%◌, ◌^◌, ◌≤◌, ◌<◌, max}
use native.Mathlib.Nat.{le_trans, le_of_eq, mul-le-mul_right, mul_assoc, mul-one, one-mul, pow-zero, pow-succ'}
use native.Mathlib.Omega.{arith}
use lib.ListN.{length, length-append}
use lib.Dec.{ltb}
use borrow.Author.Tests.{leb-true, leb-false, le-leb}
use Rattle.ascii.specs.Ascii.{Bytes, is_empty, all, is_digit, value_from, value, number16, decimal_up_to, decimal}
use Rattle.ascii.proofs.NumberLaws.{digit_between, digit_in}
use Rattle.ascii.proofs.ListLaws.{all_append}

-- ---- digits

value_append : (a : ℕ) (x : Bytes) (b : ℕ) → value_from a (x ++ b ∷ []) ≡ value_from a x * 10 + (b - 48)
unfolding value_from
value_append a [] b = refl
value_append a (c ∷ x) b = value_append (a * 10 + (c - 48)) x b

one_digit : (n : ℕ) → n < 10 → all is_digit ((48 + n) ∷ []) ≡ true
unfolding all
one_digit n h = rw (← digit_between (48 + n) (omega arith) (omega arith))

-- x is the digits of n, without leading zero
pub record Numeral (n : ℕ) (x : Bytes) : Type 0 where
  pub first : ℕ
  pub others : Bytes
  pub split : x ≡ first ∷ others
  pub digits : all is_digit x ≡ true
  pub worth : value x ≡ n
  pub leading : first ≡ 48 → (n ≡ 0) × (others ≡ [])

up_to : (j n : ℕ) → n < 10 ^ suc j → Numeral n (decimal_up_to j n)
unfolding decimal_up_to value value_from
up_to zero n h = record { first = 48 + n; others = []; split = refl; digits = one_digit n (omega arith); worth = omega arith; leading = λ e. (omega arith, refl) }
up_to (suc j) n h = go (ltb n 10) refl (up_to j (n / 10) (let q : n < 10 * 10 ^ suc j = rw pow-succ' at h in omega arith))
  where
    go : (u : Bool) → ltb n 10 ≡ u → Numeral (n / 10) (decimal_up_to j (n / 10)) → Numeral n (if u then (48 + n) ∷ [] else decimal_up_to j (n / 10) ++ (48 + n % 10) ∷ [])
    go true e N = record { first = 48 + n; others = []; split = refl; digits = one_digit n (leb-true (suc n) 10 e); worth = omega arith; leading = λ e. (omega arith, refl) }
    go false e N = record {
      first = N.first;
      others = N.others ++ (48 + n % 10) ∷ [];
      split = ap (λ (x : Bytes). x ++ (48 + n % 10) ∷ []) N.split;
      digits = all_append is_digit (decimal_up_to j (n / 10)) ((48 + n % 10) ∷ []) N.digits (one_digit (n % 10) (omega arith));
      worth = value_append 0 (decimal_up_to j (n / 10)) (48 + n % 10) ∙ omega (arith, N.worth);
      leading = λ z. absurd (omega (arith, leb-false (suc n) 10 e, (N.leading z).0));
    }

-- ---- read again

pub decimal_numeral : (n : ℕ) → n ≤ 65535 → Numeral n (decimal n)
unfolding decimal
decimal_numeral n h = up_to 4 n (omega arith)

not_empty : (x : Bytes) (b : ℕ) (y : Bytes) → x ≡ b ∷ y → is_empty x ≡ false
not_empty x b y e = ap is_empty e

pub number_decimal : (n : ℕ) → n ≤ 65535 → number16 (decimal n) ≡ Some n
unfolding number16
number_decimal n h =
    let N = decimal_numeral n h in
    rw (not_empty (decimal n) N.first N.others N.split, N.digits, N.worth, le-leb n 65535 h)

-- ---- no longer than any digits of the same value

value_below : (n : ℕ) (x : Bytes) → all is_digit x ≡ true → value_from n x < (n + 1) * 10 ^ length x
unfolding value_from all
value_below n [] e = rw (pow-zero, mul-one) (omega arith)
value_below n (b ∷ x) e =
    let h = (and-eq-true_iff (is_digit b) (all is_digit x)).0 e in
    let ih : value_from (n * 10 + (b - 48)) x < (n * 10 + (b - 48) + 1) * 10 ^ length x = value_below (n * 10 + (b - 48)) x h.1 in
    let d : n * 10 + (b - 48) + 1 ≤ (n + 1) * 10 = omega (arith, (digit_in b h.0).high) in
    le_trans ih (le_trans (mul-le-mul_right (10 ^ length x) d) (le_of_eq (mul_assoc (n + 1) 10 (10 ^ length x) ∙ ap (λ (k : ℕ). (n + 1) * k) (sym (pow-succ' 10 (length x))))))

up_to_length : (j k n : ℕ) → n < 10 ^ suc k → length (decimal_up_to j n) ≤ suc k
unfolding decimal_up_to
up_to_length zero k n h = omega arith
up_to_length (suc j) k n h = go k (ltb n 10) refl h (λ k m. up_to_length j k m)
  where
    go : (k : ℕ) (u : Bool) → ltb n 10 ≡ u → n < 10 ^ suc k
        → ((k m : ℕ) → m < 10 ^ suc k → length (decimal_up_to j m) ≤ suc k)
        → length (if u then (48 + n) ∷ [] else decimal_up_to j (n / 10) ++ (48 + n % 10) ∷ []) ≤ suc k
    go k true e p ih = omega arith
    go zero false e p ih = absurd (omega (arith, leb-false (suc n) 10 e))
    go (suc k) false e p ih =
        let q : n < 10 * 10 ^ suc k = rw pow-succ' at p in
        omega (arith, length-append (decimal_up_to j (n / 10)) ((48 + n % 10) ∷ []), ih k (n / 10) (omega arith))

pub decimal_shortest : (x : Bytes) → all is_digit x ≡ true → length (decimal (value x)) ≤ max 1 (length x)
unfolding decimal value value_from
decimal_shortest [] e = omega (arith, up_to_length 4 0 0 (omega arith))
decimal_shortest (b ∷ x) e =
    let h : value (b ∷ x) < (0 + 1) * 10 ^ suc (length x) = value_below 0 (b ∷ x) e in
    omega (arith, up_to_length 4 (length x) (value (b ∷ x)) (rw one-mul at h))
