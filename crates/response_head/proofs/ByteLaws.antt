-- Byte classes, runs of bytes, blanks at the end, and forms. Assumes nothing.
use mathlib.Core.Path.{◌≡◌, refl, ap, ◌∙◌}
use mathlib.Core.Bool.{Bool, true, false, ◌||◌, not, and-false}
use mathlib.Core.List.{[], ◌∷◌}
use Prim.Native.Nat.{ℕ, zero, suc, ◌+◌, ◌-◌, ◌≤◌, ◌<◌}
use native.Mathlib.Omega.{arith}
use lib.ListN.{length, get_or, take, drop, length-drop}
use lib.Seq.{take_all}
use lib.Dec.{eqb, leb, ltb}
use borrow.Author.Rules.{rules}
use borrow.Author.Tests.{eq-eqb, ne_eqb, lt-ltb, le-leb}
use Rattle.std.specs.Prelude.{nat_eq}
use Rattle.std.specs.Char.{is_ascii_alphanumeric}
use Rattle.std.specs.List.{list_any}
use Rattle.ascii.specs.Ascii.{Bytes, all, is_digit, is_letter, is_upper, text}
use Rattle.ascii.proofs.Bytes.{agree, agree_where}
use Rattle.response_head.specs.ResponseHead.{is_blank, is_text_byte, is_tchar, trim_end, fits_byte}
use Rattle.response_head.specs.code.Meaning.{Trims}

-- ---- classes

pub blank_space : (b : ℕ) → b ≡ 32 → true ≡ is_blank b
unfolding is_blank
blank_space b e = rw (eq-eqb b 32 e)

pub blank_tab : (b : ℕ) → (b ≡ 32 → ⊥) → eqb b 9 ≡ is_blank b
unfolding is_blank
blank_tab b n = rw (ne_eqb b 32 n)

module _ (b : ℕ) (h : b < 256) where
  pub text_low : b < 32 → eqb b 9 ≡ is_text_byte b
  unfolding is_text_byte is_blank
  text_low l = agree_where (λ k. ltb k 32) (λ k. eqb k 9) is_text_byte tt b h (lt-ltb b 32 l)

  pub text_high : 32 ≤ b → not (eqb b 127) ≡ is_text_byte b
  unfolding is_text_byte is_blank
  text_high l = agree_where (λ k. leb 32 k) (λ k. not (eqb k 127)) is_text_byte tt b h (le-leb 32 b l)

-- a letter or digit, or one of these marks
module _ (b : ℕ) (h : b < 256) where
  tchar_is : (is_ascii_alphanumeric b || list_any (λ y. nat_eq y b) (text "!#$%&'*+-.^_`|~")) ≡ is_tchar b
  unfolding is_tchar is_digit is_letter is_upper
  tchar_is = agree (λ k. is_ascii_alphanumeric k || list_any (λ y. nat_eq y k) (text "!#$%&'*+-.^_`|~")) is_tchar tt b h

  pub tchar_alphanumeric : {q : Bool} → q ≡ is_ascii_alphanumeric b → q ≡ true → true ≡ is_tchar b
  tchar_alphanumeric e f = (rw (← e, f)) ∙ tchar_is

  pub tchar_mark : {q r : Bool} → q ≡ is_ascii_alphanumeric b → q ≡ false → r ≡ list_any (λ y. nat_eq y b) (text "!#$%&'*+-.^_`|~") → r ≡ is_tchar b
  tchar_mark e f g = g ∙ (rw (← e, f)) ∙ tchar_is

-- ---- blanks at the end

-- each byte from a place on
abbrev BlankFrom : Bytes → ℕ → Type 0
BlankFrom t i = (k : ℕ) → i ≤ k → k < length t → is_blank (get_or t k 0) ≡ true

all_blank : (t : Bytes) → BlankFrom t 0 → all is_blank t ≡ true
unfolding all
all_blank [] h = refl
all_blank (b ∷ t) h = rw (h 0 (omega arith) (omega arith), all_blank t (λ k l m. h (suc k) (omega arith) (omega arith)))

not_all : (t : Bytes) (i : ℕ) → i < length t → is_blank (get_or t i 0) ≡ false → all is_blank t ≡ false
unfolding all
not_all [] i l e = absurd (omega arith)
not_all (b ∷ t) zero l e = rw e
not_all (b ∷ t) (suc i) l e = rw (not_all t i (omega arith) e, and-false)

trim_blank : (t : Bytes) → BlankFrom t 0 → trim_end t ≡ []
unfolding trim_end
trim_blank [] h = refl
trim_blank (b ∷ t) h = rw (all_blank (b ∷ t) h)

trim_last : (t : Bytes) (i : ℕ) → i < length t → is_blank (get_or t i 0) ≡ false → BlankFrom t (i + 1) → trim_end t ≡ take (suc i) t
unfolding trim_end
trim_last [] i l e h = absurd (omega arith)
trim_last (b ∷ t) zero l e h = rw (not_all (b ∷ t) 0 l e, trim_blank t (λ k m n. h (suc k) (omega arith) (omega arith)))
trim_last (b ∷ t) (suc i) l e h = rw (not_all (b ∷ t) (suc i) l e, trim_last t i (omega arith) e (λ k m n. h (suc k) (omega arith) (omega arith)))

module _ (s : Bytes) (from : ℕ) {t : Bytes} (e : t ≡ take (length s - from) (drop from s)) (l : from ≤ length s) where
  rest_is : t ≡ drop from s
  rest_is = e ∙ take_all (length s - from) (drop from s) (omega (arith, length-drop from s))

  pub trim_none : BlankFrom t 0 → Trims s from from
  trim_none h =
      let z : from - from ≡ 0 = omega arith in
      record { low = omega arith; high = l; is = rw (z, ← rest_is, trim_blank t h) }

  pub trim_some : {i : ℕ} → i < length t → is_blank (get_or t i 0) ≡ false → BlankFrom t (i + 1) → Trims s from (from + i + 1)
  trim_some {i} m f h =
      let z : from + i + 1 - from ≡ suc i = omega arith in
      record { low = omega arith; high = omega (arith, ap length rest_is, length-drop from s); is = rw (z, ← rest_is, trim_last t i m f h) }

-- ---- forms

pub fits_digit : (p b : ℕ) {r : Bool} → p ≡ 48 → r ≡ is_digit b → r ≡ fits_byte p b
unfolding fits_byte
fits_digit p b e f = f ∙ rw (eq-eqb p 48 e)

pub fits_other : (p b : ℕ) → (p ≡ 48 → ⊥) → eqb b p ≡ fits_byte p b
unfolding fits_byte
fits_other p b n = rw (ne_eqb p 48 n)

pub ruleset byte_laws = (blank_space, blank_tab, text_low, text_high, tchar_alphanumeric, tchar_mark, fits_digit, fits_other, rules)
