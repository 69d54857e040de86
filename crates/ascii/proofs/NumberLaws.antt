-- Decimal numbers read in a loop and written digit by digit. Assumes nothing.
use mathlib.Core.Path.{◌≡◌, refl, sym, ◌∙◌}
use mathlib.Core.List.{[], ◌∷◌}
use mathlib.Core.Bool.{Bool, true, false, ◌&&◌, and-false, and-eq-true_iff}
use Rattle.std.specs.Prelude.{Option, None, Some, SomeIff}
use Prim.Native.Nat.{ℕ, ◌+◌, ◌-◌, ◌*◌, ◌/◌, ◌%◌, ◌^◌, ◌≤◌, ◌<◌}
use native.Mathlib.Numerals.{add-one}
use native.Mathlib.Omega.{arith}
use lib.ListN.{length, drop, get_or, drop_of_length-le}
use lib.Seq.{drop-cons}
use lib.Dec.{leb}
use borrow.Author.Tests.{lt-leb, le-leb, leb-true, lt-ltb, le-ltb}
use borrow.Author.Rules.{rules}
use Rattle.ascii.specs.Ascii.{Bytes, ◌when◌, all, is_digit, value_from, value, number16, decimal_up_to, decimal}
use Rattle.ascii.specs.code.Numbers.{DigitIs, Writes}

-- ---- a digit

pub digit_low : (b : ℕ) → b < 48 → false ≡ is_digit b
unfolding is_digit
digit_low b h = rw (lt-leb 48 b h)

pub digit_high : (b : ℕ) → 57 < b → false ≡ is_digit b
unfolding is_digit
digit_high b h = rw (lt-leb b 57 h, and-false (leb 48 b))

pub digit_between : (b : ℕ) → 48 ≤ b → b ≤ 57 → true ≡ is_digit b
unfolding is_digit
digit_between b h k = rw (le-leb 48 b h, le-leb b 57 k)

pub record InDigits (b : ℕ) : Type 0 where
  pub low : 48 ≤ b
  pub high : b ≤ 57

pub digit_in : (b : ℕ) → is_digit b ≡ true → InDigits b
unfolding is_digit
digit_in b e = let p = (and-eq-true_iff (leb 48 b) (leb b 57)).0 e in record { low = leb-true 48 b p.0; high = leb-true b 57 p.1 }

pub digit_told : (b : ℕ) {q : Bool} → q ≡ is_digit b → q ≡ true → is_digit b ≡ true
digit_told b e f = sym e ∙ f

pub digit_least : (b : ℕ) → is_digit b ≡ true → 48 ≤ b
digit_least b e = (digit_in b e).low

pub digit_is : (b : ℕ) → is_digit b ≡ true → DigitIs b (b - 48)
digit_is b e = record { small = omega (arith, (digit_in b e).high); is = refl }

-- ---- read

-- the number that is written by digits behind those of n
unfoldable pub number_from : ℕ → Bytes → Option ℕ
number_from n s = value_from n s when (all is_digit s && leb (value_from n s) 65535)

no_fall : (n : ℕ) (s : Bytes) → n ≤ value_from n s
unfolding value_from
no_fall n [] = omega arith
no_fall n (b ∷ s) = omega (arith, no_fall (n * 10 + (b - 48)) s)

from_over : (n : ℕ) (s : Bytes) → 65535 < n → number_from n s ≡ None
unfolding number_from
from_over n s h = rw (lt-leb (value_from n s) 65535 (omega (arith, no_fall n s)), and-false (all is_digit s))

-- what 16 bits hold of an answer of checked arithmetic
record Fits16 (v m : ℕ) : Type 0 where
  pub small : m ≤ 65535
  pub is : m ≡ v

fits16 : {o : Option ℕ} {v m : ℕ} → SomeIff o (v < 2 ^ 16) v → o ≡ Some m → Fits16 v m
fits16 {v = v} {m = m} a e = let k : (v < 2 ^ 16) × (m ≡ v) = rw e at a in record { small = omega (arith, k.0, k.1); is = k.1 }

over16 : {o : Option ℕ} {v : ℕ} → SomeIff o (v < 2 ^ 16) v → o ≡ None → 65535 < v
over16 {v = v} a e = let k : v < 2 ^ 16 → ⊥ = rw e at a in omega (arith, k)

-- what is read so far is n; what is left decides
pub record Digits (s : Bytes) (goal : Option ℕ) (n i : ℕ) : Type 0 where
  pub small : n ≤ 65535
  pub is : number_from n (drop i s) ≡ goal

pub number_empty : (s : Bytes) → length s ≡ 0 → None ≡ number16 s
unfolding number16
number_empty [] h = refl
number_empty (b ∷ s) h = absurd (omega arith)

pub number_starts : (s : Bytes) → (length s ≡ 0 → ⊥) → Digits s (number16 s) 0 0
unfolding number16 number_from value
number_starts [] n = absurd (n refl)
number_starts (b ∷ s) n = record { small = omega arith; is = refl }

module _ {s : Bytes} {goal : Option ℕ} {n i : ℕ} (D : Digits s goal n i) where
  pub number_ends : length s ≤ i → Some n ≡ goal
  unfolding number_from all value_from
  number_ends h = (rw (drop_of_length-le s h, le-leb n 65535 D.small)) ∙ D.is

  module _ (h : i < length s) where
    pub number_other : {q : Bool} → q ≡ is_digit (get_or s i 0) → q ≡ false → None ≡ goal
    unfolding number_from all
    number_other e f = (rw (drop-cons s i 0 h, sym e ∙ f)) ∙ D.is

    module _ {q : Bool} {d : ℕ} (e : q ≡ is_digit (get_or s i 0)) (f : q ≡ true) (g : DigitIs (get_or s i 0) d) where
      number_step : number_from n (drop i s) ≡ number_from (n * 10 + d) (drop (i + 1) s)
      unfolding number_from all value_from
      number_step = rw (g.is, add-one, drop-cons s i 0 h, sym e ∙ f)

      past : 65535 < n * 10 + d → None ≡ goal
      past k = (rw (number_step, from_over (n * 10 + d) (drop (i + 1) s) k)) ∙ D.is

      module _ {o p : Option ℕ} {t : ℕ} (a : SomeIff o (n * 10 < 2 ^ 16) (n * 10)) (b : o ≡ Some t) (c : SomeIff p (t + d < 2 ^ 16) (t + d)) where
        pub number_over : {r : Option ℕ} → p ≡ None → r ≡ None → r ≡ goal
        number_over j k = k ∙ past (omega (arith, over16 c j, (fits16 a b).is))

        pub number_more : {m : ℕ} → p ≡ Some m → Digits s goal m (i + 1)
        number_more {m} j =
            let y = fits16 c j in
            let z : m ≡ n * 10 + d = omega (arith, (fits16 a b).is, y.is) in
            record { small = y.small; is = rw z (sym number_step ∙ D.is) }

    module _ {q : Bool} (e : q ≡ is_digit (get_or s i 0)) (f : q ≡ true) where
      pub number_far : {o r : Option ℕ} → SomeIff o (n * 10 < 2 ^ 16) (n * 10) → o ≡ None → r ≡ None → r ≡ goal
      number_far a j k = k ∙ past e f (digit_is (get_or s i 0) (sym e ∙ f)) (omega (arith, over16 a j))

-- ---- written

module _ (n : ℕ) {a : ℕ} (p : a ≡ 48 + n % 10) where
  last_digit : n < 10 → a ≡ 48 + n
  last_digit h = omega arith

  pub writes_one : n < 10 → Writes n (record { digits = a ∷ 0 ∷ 0 ∷ 0 ∷ 0 ∷ []; len = 1 })
  unfolding decimal decimal_up_to
  writes_one h = record { room = omega arith; is = rw (lt-ltb n 10 h, last_digit h) }

  module _ {b : ℕ} (q : b ≡ 48 + n / 10 % 10) (h : 10 ≤ n) where
    pub writes_two : n / 10 < 10 → Writes n (record { digits = b ∷ a ∷ 0 ∷ 0 ∷ 0 ∷ []; len = 2 })
    unfolding decimal decimal_up_to
    writes_two k =
        let y : b ≡ 48 + n / 10 = omega arith in
        record { room = omega arith; is = rw (le-ltb n 10 h, lt-ltb (n / 10) 10 k, p, y) }

    module _ {c : ℕ} (r : c ≡ 48 + n / 10 / 10 % 10) (i : 10 ≤ n / 10) where
      pub writes_three : n / 10 / 10 < 10 → Writes n (record { digits = c ∷ b ∷ a ∷ 0 ∷ 0 ∷ []; len = 3 })
      unfolding decimal decimal_up_to
      writes_three k =
          let z : c ≡ 48 + n / 10 / 10 = omega arith in
          record { room = omega arith; is = rw (le-ltb n 10 h, le-ltb (n / 10) 10 i, lt-ltb (n / 10 / 10) 10 k, p, q, z) }

      module _ {d : ℕ} (t : d ≡ 48 + n / 10 / 10 / 10 % 10) (j : 10 ≤ n / 10 / 10) where
        pub writes_four : n / 10 / 10 / 10 < 10 → Writes n (record { digits = d ∷ c ∷ b ∷ a ∷ 0 ∷ []; len = 4 })
        unfolding decimal decimal_up_to
        writes_four k =
            let z : d ≡ 48 + n / 10 / 10 / 10 = omega arith in
            record { room = omega arith; is = rw (le-ltb n 10 h, le-ltb (n / 10) 10 i, le-ltb (n / 10 / 10) 10 j, lt-ltb (n / 10 / 10 / 10) 10 k, p, q, r, z) }

        pub writes_five : {e : ℕ} → e ≡ 48 + n / 10 / 10 / 10 / 10 → 10 ≤ n / 10 / 10 / 10 → Writes n (record { digits = e ∷ d ∷ c ∷ b ∷ a ∷ []; len = 5 })
        unfolding decimal decimal_up_to
        writes_five u k = record { room = omega arith; is = rw (le-ltb n 10 h, le-ltb (n / 10) 10 i, le-ltb (n / 10 / 10) 10 j, le-ltb (n / 10 / 10 / 10) 10 k, p, q, r, t, u) }

pub ruleset number_laws = (digit_low, digit_high, digit_between, digit_told, digit_least, digit_is, number_empty, number_starts, number_ends, number_other, writes_one, writes_two, writes_three, writes_four, writes_five, rules)
