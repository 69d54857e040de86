-- The kinds of bytes, and the table of them. Assumes nothing.
use Rattle.std.specs.Prelude.{if◌then◌else◌, Option, None, Some, MatchOption, slice_get}
use mathlib.Core.Path.{◌≡◌, refl, ◌∙◌}
use mathlib.Core.Bool.{Bool, true, false, and-false}
use denote.Param.Members.{Mut}
use Rattle.std.specs.Fn.{Called}
use Rattle.std.specs.Array.{IsFromFnResult, IsFromFnResultFrom}
use Prim.Native.Nat.{ℕ, zero, suc, ◌+◌, ◌-◌, ◌*◌, ◌≤◌, ◌<◌}
use native.Mathlib.Omega.{arith}
use lib.ListN.{length, get_or}
use lib.Dec.{eqb, ltb}
use borrow.Author.Rules.{rules}
use borrow.Author.Tests.{eq-eqb, ne_eqb, eqb-true, eqb-false, lt-leb, le-leb, lt-ltb, le-ltb, ltb-true, ltb-false}
use Rattle.ascii.specs.Ascii.{Bytes, is_digit, is_letter, is_upper, lower_byte}
use Rattle.ascii.specs.Class.{class_of, Classifies}
use Rattle.ascii.proofs.Bytes.{agree, letter_small, digit_small}
use Rattle.suffix.specs.code.Idle.{last_byte, is_alphanumeric, is_like, kind_of, kind_in, KindsOf, KindBy, KindsBy, step_of, stop_of}
use Rattle.suffix.specs.declared.skips.Stop.TheVariants.{Host, Other}

pub last_is : (s : Bytes) {o : Option ℕ} → o ≡ slice_get s (length s - 1) → o ≡ last_byte s
unfolding last_byte
last_is s e = e

-- ---- the kind of a byte

-- where the test of the last byte tells P of it
pub like_told : (last : Option ℕ) (b : ℕ) {P : ℕ → Type 0} {r : Bool} → MatchOption last (r ≡ false) P → ((c : ℕ) → P c → r ≡ eqb (lower_byte b) (lower_byte c)) → r ≡ is_like last b
unfolding is_like
like_told None b m told = m
like_told (Some c) b m told = told c m

-- the classes 0 and 1 are letters and digits
plain_class : (table : Bytes) (b : ℕ) → Classifies table → b < 256 → ltb (get_or table b 0) 2 ≡ is_alphanumeric b
unfolding class_of is_letter is_upper is_digit is_alphanumeric
plain_class table b C h = rw (C.is b h) (agree (λ k. ltb (class_of k) 2) is_alphanumeric tt b h)

pub kind_at : (last : Option ℕ) (b c : ℕ) → b ≡ c → is_alphanumeric c ≡ false → kind_of last c ≡ kind_of last b
kind_at last b c e p = rw e

pub kind_lf : (last : Option ℕ) (b : ℕ) → b ≡ 10 → 8 ≡ kind_of last b
unfolding kind_of is_alphanumeric is_letter is_upper is_digit
kind_lf last b e = kind_at last b 10 e refl

pub hyphen_kind : (last : Option ℕ) (b : ℕ) → b ≡ 45 → 6 ≡ kind_of last b
unfolding kind_of is_alphanumeric is_letter is_upper is_digit
hyphen_kind last b e = kind_at last b 45 e refl

pub dot_kind : (last : Option ℕ) (b : ℕ) → b ≡ 46 → 7 ≡ kind_of last b
unfolding kind_of is_alphanumeric is_letter is_upper is_digit
dot_kind last b e = kind_at last b 46 e refl

module _ (table : Bytes) (last : Option ℕ) (b : ℕ) where
  -- what is so by every table
  anyhow : {k : ℕ} → k ≡ kind_of last b → KindBy table last b k
  anyhow e = record { is = λ C. e }

  pub kind_hyphen : b ≡ 45 → KindBy table last b 6
  unfolding kind_of is_alphanumeric is_letter is_upper is_digit
  kind_hyphen e = anyhow (kind_at last b 45 e refl)

  pub kind_dot : b ≡ 46 → KindBy table last b 7
  unfolding kind_of is_alphanumeric is_letter is_upper is_digit
  kind_dot e = anyhow (kind_at last b 46 e refl)

  pub kind_end : b ≡ 10 → KindBy table last b 8
  kind_end e = anyhow (kind_lf last b e)

  module _ (h : b < 256) where
    module _ (l : get_or table b 0 < 2) {r : Bool} (t : r ≡ is_like last b) where
      pub kind_alike : r ≡ true → KindBy table last b 1
      unfolding kind_of
      kind_alike w = record { is = λ C. rw (← plain_class table b C h, lt-ltb (get_or table b 0) 2 l, ← t, w) }

      pub kind_plain : r ≡ false → KindBy table last b 0
      unfolding kind_of
      kind_plain w = record { is = λ C. rw (← plain_class table b C h, lt-ltb (get_or table b 0) 2 l, ← t, w) }

    pub kind_rest : 2 ≤ get_or table b 0 → (b ≡ 45 → ⊥) → (b ≡ 46 → ⊥) → (b ≡ 10 → ⊥) → KindBy table last b 9
    unfolding kind_of
    kind_rest l m n o = record { is = λ C. rw (← plain_class table b C h, le-ltb (get_or table b 0) 2 l, ne_eqb b 45 m, ne_eqb b 46 n, ne_eqb b 10 o) }

-- of no byte
kind_high : (last : Option ℕ) (b : ℕ) → 256 ≤ b → 9 ≡ kind_of last b
unfolding kind_of is_alphanumeric
kind_high last b h = rw (letter_small b h, digit_small b h, ne_eqb b 45 (λ z. omega arith), ne_eqb b 46 (λ z. omega arith), ne_eqb b 10 (λ z. omega arith))

-- ---- the table

-- where each call gives the kind of its byte
module _ {F : Type 0} {g : Mut F (ℕ × Unit {0}) ℕ} {f : F} (last : Option ℕ) (told : (b k : ℕ) (q : F) → Called g f (b, tt) k q → (q ≡ f) × (k ≡ kind_of last b)) where
  filled_from : (table : Bytes) (i n b : ℕ) → IsFromFnResultFrom g f table i n → i ≤ b → b < i + n → get_or table b 0 ≡ kind_of last b
  filled_from table i zero b c l m = absurd (omega arith)
  filled_from table i (suc n) b (q, k, e, c, r) l m = go (eqb b i) refl (filled_from table (i + 1) n b (rw (told i k q c).0 at r))
    where
      go : (u : Bool) → eqb b i ≡ u → (i + 1 ≤ b → b < i + 1 + n → get_or table b 0 ≡ kind_of last b) → get_or table b 0 ≡ kind_of last b
      go true z ih = rw (eqb-true b i z) (e.1 0 ∙ (told i k q c).1)
      go false z ih = let w = eqb-false b i z in ih (omega arith) (omega arith)

  filled : (host table : Bytes) → last ≡ last_byte host → IsFromFnResult g f table 256 → KindsOf host table
  filled host table e R = record { is = λ b l. rw (← e) (filled_from table 0 256 b R.each (omega arith) (omega arith)) }

-- by a class table that is lent
module _ {F : Type 0} {g : Mut F (ℕ × Unit {0}) ℕ} {f : F} (classes : Bytes) (last : Option ℕ) (told : (b k : ℕ) (q : F) → Called g f (b, tt) k q → (q ≡ f) × KindBy classes last b k) where
  pub kinds_filled : (host table : Bytes) → last ≡ last_byte host → IsFromFnResult g f table 256 → KindsBy classes host table
  kinds_filled host table e R = record { is = λ C. filled last (λ b k q h. let t = told b k q h in (t.0, t.1.is C)) host table e R }

pub kind_read : (kinds : Bytes) (b : ℕ) → b < 256 → get_or kinds b 0 ≡ kind_in kinds b
unfolding kind_in
kind_read kinds b h = rw (lt-ltb b 256 h)

-- the host's own table gives each byte its kind
pub kind_told : {host kinds : Bytes} → KindsOf host kinds → (b : ℕ) → kind_in kinds b ≡ kind_of (last_byte host) b
unfolding kind_in
kind_told {host} {kinds} K b = go (ltb b 256) refl
  where
    go : (u : Bool) → ltb b 256 ≡ u → (if u then get_or kinds b 0 else 9) ≡ kind_of (last_byte host) b
    go true e = K.is b (ltb-true b 256 e)
    go false e = kind_high (last_byte host) b (ltb-false b 256 e)

-- ---- one byte on

module _ (g p start next : ℕ) {k x y : ℕ} (e : k ≡ g) (a : x ≡ p) (b : y ≡ k) where
  pub advance_off : {n : ℕ} → n < x + 3 * y → 24 ≤ n → None ≡ step_of g p start next
  unfolding step_of
  advance_off h l = rw (lt-leb (p + 3 * g) 24 (omega arith))

  pub advance_on : {r : ℕ} → x + 3 * y ≤ 24 → r ≡ (if eqb k 8 then next else start) → Some (r, k) ≡ step_of g p start next
  unfolding step_of
  advance_on h f = rw (le-leb (p + 3 * g) 24 (omega arith), f, e)

module _ (g p start at : ℕ) {k : ℕ} (e : k ≡ g) where
  pub halt_host : k ≡ 8 → p ≡ 1 → Host start at ≡ stop_of g p start at
  unfolding stop_of
  halt_host f h = rw (← e, eq-eqb k 8 f, eq-eqb p 1 h)

  pub halt_kind : (k ≡ 8 → ⊥) → Other start ≡ stop_of g p start at
  unfolding stop_of
  halt_kind f = rw (← e, ne_eqb k 8 f)

  pub halt_before : (p ≡ 1 → ⊥) → Other start ≡ stop_of g p start at
  unfolding stop_of
  halt_before h = rw (ne_eqb p 1 h, and-false)

pub ruleset kind_laws = (
  kind_alike,
  kind_plain,
  kind_rest,
  kind_hyphen,
  kind_dot,
  kind_end,
  kind_read,
  advance_off,
  advance_on,
  halt_host,
  halt_kind,
  halt_before,
  rules,
)
