-- The ways through a character of a string that is not escaped.
use Rattle.std.specs.Prelude.{Option, Some, None}
use mathlib.Core.Path.{◌≡◌, refl, ap, sym, ◌∙◌}
use Prim.Native.Nat.{ℕ, ◌+◌, ◌≤◌, ◌<◌}
use native.Mathlib.Omega.{arith}
use Rattle.ascii.specs.Ascii.{Bytes, between}
use Rattle.json_text.specs.Reader.{bad, Reader, ◌>>◌, byte_range}
use Rattle.json_text.specs.Utf8.{utf8_tail, then_tail, then_tails, multibyte_char}
use Rattle.json_text.specs.Lexical.{unescaped}
use Rattle.json_text.specs.code.Places.{Peeked, read_at, place_of}
use Rattle.json_text.proofs.Steps.{here, on, then_bad, one_yes, one_no, lead_yes, lead_no, give_at, fail_at, found, missed, inside, under, above}

-- one reader and then another
module _ {A B : Type 0} (p : Reader A) (r : Reader B) (s : Bytes) (i : ℕ) {q : Option ℕ} (e : q ≡ place_of (read_at p s i)) where
  pub seq_bad : q ≡ None → None ≡ place_of (read_at (p >> r) s i)
  unfolding place_of
  seq_bad h = rw (then_bad p (λ a. r) s i (missed _ e h))

  pub seq_on : {j : ℕ} {t : Option ℕ} → q ≡ Some j → t ≡ place_of (read_at r s j) → t ≡ place_of (read_at (p >> r) s i)
  seq_on h f = f ∙ sym (ap place_of (on p (λ a. r) s i (found _ e h).1))

module _ {s : Bytes} {i : ℕ} (lo hi : ℕ) {q : Option ℕ} (p : Peeked s i q) where
  pub range_gone : hi < 256 → q ≡ None → None ≡ place_of (read_at (byte_range lo hi) s i)
  unfolding place_of
  range_gone h e = rw (one_no p (between lo hi) (rw e (above lo hi 256 h)))

module _ {s : Bytes} {i : ℕ} (lo hi : ℕ) {q : Option ℕ} {b : ℕ} (p : Peeked s i q) (e : q ≡ Some b) where
  w : Peeked s i (Some b)
  w = here p e

  pub range_low : b < lo → None ≡ place_of (read_at (byte_range lo hi) s i)
  unfolding place_of
  range_low h = rw (one_no w _ (under lo hi b h))

  pub range_in : lo ≤ b → b ≤ hi → Some (i + 1) ≡ place_of (read_at (byte_range lo hi) s i)
  unfolding place_of
  range_in h k = rw (one_yes w _ (inside lo hi b h k))

  pub range_high : hi < b → None ≡ place_of (read_at (byte_range lo hi) s i)
  unfolding place_of
  range_high h = rw (one_no w _ (above lo hi b h))

module _ {s : Bytes} {i : ℕ} {q : Option ℕ} (p : Peeked s i q) (e : q ≡ None) where
  n : Peeked s i None
  n = record { is = sym e ∙ p.is }

  pub wide_gone : None ≡ place_of (read_at multibyte_char s i)
  unfolding multibyte_char place_of
  wide_gone = rw (lead_no n _ _ 0xC2 0xDF refl, lead_no n _ _ 0xE0 0xE0 refl, lead_no n _ _ 0xE1 0xEC refl, lead_no n _ _ 0xED 0xED refl, lead_no n _ _ 0xEE 0xEF refl, lead_no n _ _ 0xF0 0xF0 refl, lead_no n _ _ 0xF1 0xF3 refl, lead_no n _ _ 0xF4 0xF4 refl, fail_at)

  pub plain_gone : None ≡ place_of (read_at unescaped s i)
  unfolding unescaped multibyte_char place_of
  plain_gone = rw (lead_no n _ _ 0x20 0x21 refl, lead_no n _ _ 0x23 0x5B refl, lead_no n _ _ 0x5D 0x7F refl, lead_no n _ _ 0xC2 0xDF refl, lead_no n _ _ 0xE0 0xE0 refl, lead_no n _ _ 0xE1 0xEC refl, lead_no n _ _ 0xED 0xED refl, lead_no n _ _ 0xEE 0xEF refl, lead_no n _ _ 0xF0 0xF0 refl, lead_no n _ _ 0xF1 0xF3 refl, lead_no n _ _ 0xF4 0xF4 refl, fail_at)

module _ {s : Bytes} {i : ℕ} {q : Option ℕ} {b : ℕ} (p : Peeked s i q) (e : q ≡ Some b) where
  g : Peeked s i (Some b)
  g = here p e

  wide_none : b < 0xC2 → read_at multibyte_char s i ≡ bad
  unfolding multibyte_char
  wide_none h = rw (lead_no g _ _ 0xC2 0xDF (under 0xC2 0xDF b (omega arith)), lead_no g _ _ 0xE0 0xE0 (under 0xE0 0xE0 b (omega arith)), lead_no g _ _ 0xE1 0xEC (under 0xE1 0xEC b (omega arith)), lead_no g _ _ 0xED 0xED (under 0xED 0xED b (omega arith)), lead_no g _ _ 0xEE 0xEF (under 0xEE 0xEF b (omega arith)), lead_no g _ _ 0xF0 0xF0 (under 0xF0 0xF0 b (omega arith)), lead_no g _ _ 0xF1 0xF3 (under 0xF1 0xF3 b (omega arith)), lead_no g _ _ 0xF4 0xF4 (under 0xF4 0xF4 b (omega arith))) (fail_at s i)

  pub wide_low : b < 0xC2 → None ≡ place_of (read_at multibyte_char s i)
  unfolding place_of
  wide_low h = rw (wide_none h)

  pub wide_c2 : {q : Option ℕ} → 0xC2 ≤ b → b < 0xE0 → q ≡ place_of (read_at (utf8_tail) s (i + 1)) → q ≡ place_of (read_at multibyte_char s i)
  unfolding multibyte_char
  wide_c2 h k r = rw (lead_yes g _ _ 0xC2 0xDF (inside 0xC2 0xDF b (omega arith) (omega arith))) r

  pub wide_e0 : {q : Option ℕ} → b ≡ 0xE0 → q ≡ place_of (read_at (then_tail 0xA0 0xBF) s (i + 1)) → q ≡ place_of (read_at multibyte_char s i)
  unfolding multibyte_char
  wide_e0 h r = rw (lead_no g _ _ 0xC2 0xDF (above 0xC2 0xDF b (omega arith)), lead_yes g _ _ 0xE0 0xE0 (inside 0xE0 0xE0 b (omega arith) (omega arith))) r

  pub wide_e1 : {q : Option ℕ} → 0xE1 ≤ b → b < 0xED → q ≡ place_of (read_at (then_tail 0x80 0xBF) s (i + 1)) → q ≡ place_of (read_at multibyte_char s i)
  unfolding multibyte_char
  wide_e1 h k r = rw (lead_no g _ _ 0xC2 0xDF (above 0xC2 0xDF b (omega arith)), lead_no g _ _ 0xE0 0xE0 (above 0xE0 0xE0 b (omega arith)), lead_yes g _ _ 0xE1 0xEC (inside 0xE1 0xEC b (omega arith) (omega arith))) r

  pub wide_ed : {q : Option ℕ} → b ≡ 0xED → q ≡ place_of (read_at (then_tail 0x80 0x9F) s (i + 1)) → q ≡ place_of (read_at multibyte_char s i)
  unfolding multibyte_char
  wide_ed h r = rw (lead_no g _ _ 0xC2 0xDF (above 0xC2 0xDF b (omega arith)), lead_no g _ _ 0xE0 0xE0 (above 0xE0 0xE0 b (omega arith)), lead_no g _ _ 0xE1 0xEC (above 0xE1 0xEC b (omega arith)), lead_yes g _ _ 0xED 0xED (inside 0xED 0xED b (omega arith) (omega arith))) r

  pub wide_ee : {q : Option ℕ} → 0xEE ≤ b → b < 0xF0 → q ≡ place_of (read_at (then_tail 0x80 0xBF) s (i + 1)) → q ≡ place_of (read_at multibyte_char s i)
  unfolding multibyte_char
  wide_ee h k r = rw (lead_no g _ _ 0xC2 0xDF (above 0xC2 0xDF b (omega arith)), lead_no g _ _ 0xE0 0xE0 (above 0xE0 0xE0 b (omega arith)), lead_no g _ _ 0xE1 0xEC (above 0xE1 0xEC b (omega arith)), lead_no g _ _ 0xED 0xED (above 0xED 0xED b (omega arith)), lead_yes g _ _ 0xEE 0xEF (inside 0xEE 0xEF b (omega arith) (omega arith))) r

  pub wide_f0 : {q : Option ℕ} → b ≡ 0xF0 → q ≡ place_of (read_at (then_tails 0x90 0xBF) s (i + 1)) → q ≡ place_of (read_at multibyte_char s i)
  unfolding multibyte_char
  wide_f0 h r = rw (lead_no g _ _ 0xC2 0xDF (above 0xC2 0xDF b (omega arith)), lead_no g _ _ 0xE0 0xE0 (above 0xE0 0xE0 b (omega arith)), lead_no g _ _ 0xE1 0xEC (above 0xE1 0xEC b (omega arith)), lead_no g _ _ 0xED 0xED (above 0xED 0xED b (omega arith)), lead_no g _ _ 0xEE 0xEF (above 0xEE 0xEF b (omega arith)), lead_yes g _ _ 0xF0 0xF0 (inside 0xF0 0xF0 b (omega arith) (omega arith))) r

  pub wide_f1 : {q : Option ℕ} → 0xF1 ≤ b → b < 0xF4 → q ≡ place_of (read_at (then_tails 0x80 0xBF) s (i + 1)) → q ≡ place_of (read_at multibyte_char s i)
  unfolding multibyte_char
  wide_f1 h k r = rw (lead_no g _ _ 0xC2 0xDF (above 0xC2 0xDF b (omega arith)), lead_no g _ _ 0xE0 0xE0 (above 0xE0 0xE0 b (omega arith)), lead_no g _ _ 0xE1 0xEC (above 0xE1 0xEC b (omega arith)), lead_no g _ _ 0xED 0xED (above 0xED 0xED b (omega arith)), lead_no g _ _ 0xEE 0xEF (above 0xEE 0xEF b (omega arith)), lead_no g _ _ 0xF0 0xF0 (above 0xF0 0xF0 b (omega arith)), lead_yes g _ _ 0xF1 0xF3 (inside 0xF1 0xF3 b (omega arith) (omega arith))) r

  pub wide_f4 : {q : Option ℕ} → b ≡ 0xF4 → q ≡ place_of (read_at (then_tails 0x80 0x8F) s (i + 1)) → q ≡ place_of (read_at multibyte_char s i)
  unfolding multibyte_char
  wide_f4 h r = rw (lead_no g _ _ 0xC2 0xDF (above 0xC2 0xDF b (omega arith)), lead_no g _ _ 0xE0 0xE0 (above 0xE0 0xE0 b (omega arith)), lead_no g _ _ 0xE1 0xEC (above 0xE1 0xEC b (omega arith)), lead_no g _ _ 0xED 0xED (above 0xED 0xED b (omega arith)), lead_no g _ _ 0xEE 0xEF (above 0xEE 0xEF b (omega arith)), lead_no g _ _ 0xF0 0xF0 (above 0xF0 0xF0 b (omega arith)), lead_no g _ _ 0xF1 0xF3 (above 0xF1 0xF3 b (omega arith)), lead_yes g _ _ 0xF4 0xF4 (inside 0xF4 0xF4 b (omega arith) (omega arith))) r

  pub wide_high : 0xF4 < b → None ≡ place_of (read_at multibyte_char s i)
  unfolding multibyte_char place_of
  wide_high h = rw (lead_no g _ _ 0xC2 0xDF (above 0xC2 0xDF b (omega arith)), lead_no g _ _ 0xE0 0xE0 (above 0xE0 0xE0 b (omega arith)), lead_no g _ _ 0xE1 0xEC (above 0xE1 0xEC b (omega arith)), lead_no g _ _ 0xED 0xED (above 0xED 0xED b (omega arith)), lead_no g _ _ 0xEE 0xEF (above 0xEE 0xEF b (omega arith)), lead_no g _ _ 0xF0 0xF0 (above 0xF0 0xF0 b (omega arith)), lead_no g _ _ 0xF1 0xF3 (above 0xF1 0xF3 b (omega arith)), lead_no g _ _ 0xF4 0xF4 (above 0xF4 0xF4 b h), fail_at)

  pub plain_20 : {n : ℕ} → n ≤ b → 0x20 ≤ n → b < 0x22 → Some (i + 1) ≡ place_of (read_at unescaped s i)
  unfolding unescaped place_of
  plain_20 h l k = rw (lead_yes g _ _ 0x20 0x21 (inside 0x20 0x21 b (omega arith) (omega arith)), give_at)

  pub plain_23 : 0x23 ≤ b → b < 0x5C → Some (i + 1) ≡ place_of (read_at unescaped s i)
  unfolding unescaped place_of
  plain_23 h k = rw (lead_no g _ _ 0x20 0x21 (above 0x20 0x21 b (omega arith)), lead_yes g _ _ 0x23 0x5B (inside 0x23 0x5B b h (omega arith)), give_at)

  pub plain_5d : 0x5D ≤ b → b < 0x80 → Some (i + 1) ≡ place_of (read_at unescaped s i)
  unfolding unescaped place_of
  plain_5d h k = rw (lead_no g _ _ 0x20 0x21 (above 0x20 0x21 b (omega arith)), lead_no g _ _ 0x23 0x5B (above 0x23 0x5B b (omega arith)), lead_yes g _ _ 0x5D 0x7F (inside 0x5D 0x7F b h (omega arith)), give_at)

  pub plain_low : {n : ℕ} → b < n → n ≤ 0x20 → None ≡ place_of (read_at unescaped s i)
  unfolding unescaped place_of
  plain_low h k = rw (lead_no g _ _ 0x20 0x21 (under 0x20 0x21 b (omega arith)), lead_no g _ _ 0x23 0x5B (under 0x23 0x5B b (omega arith)), lead_no g _ _ 0x5D 0x7F (under 0x5D 0x7F b (omega arith)), wide_none (omega arith))

  pub plain_quote : 0x22 ≤ b → b < 0x23 → None ≡ place_of (read_at unescaped s i)
  unfolding unescaped place_of
  plain_quote h k = rw (lead_no g _ _ 0x20 0x21 (above 0x20 0x21 b (omega arith)), lead_no g _ _ 0x23 0x5B (under 0x23 0x5B b (omega arith)), lead_no g _ _ 0x5D 0x7F (under 0x5D 0x7F b (omega arith)), wide_none (omega arith))

  pub plain_backslash : 0x5C ≤ b → b < 0x5D → None ≡ place_of (read_at unescaped s i)
  unfolding unescaped place_of
  plain_backslash h k = rw (lead_no g _ _ 0x20 0x21 (above 0x20 0x21 b (omega arith)), lead_no g _ _ 0x23 0x5B (above 0x23 0x5B b (omega arith)), lead_no g _ _ 0x5D 0x7F (under 0x5D 0x7F b (omega arith)), wide_none (omega arith))

  pub plain_wide : {r : Option ℕ} → 0x80 ≤ b → r ≡ place_of (read_at multibyte_char s i) → r ≡ place_of (read_at unescaped s i)
  unfolding unescaped
  plain_wide h m = rw (lead_no g _ _ 0x20 0x21 (above 0x20 0x21 b (omega arith)), lead_no g _ _ 0x23 0x5B (above 0x23 0x5B b (omega arith)), lead_no g _ _ 0x5D 0x7F (above 0x5D 0x7F b (omega arith))) m
