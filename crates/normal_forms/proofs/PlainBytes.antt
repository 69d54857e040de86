-- The normal form of a facet is printable ASCII that a JSON string holds as it is. Assumes nothing.
use Rattle.std.specs.Prelude.{if◌then◌else◌, Option, None, Some}
use mathlib.Core.Path.{◌≡◌, refl, sym, ap, ◌∙◌}
use mathlib.Core.List.{[], ◌++◌}
use mathlib.Core.Bool.{Bool, true, false, ◌&&◌, ◌||◌, and-eq-true_iff}
use Prim.Native.Nat.{ℕ, ◌≤◌}
use native.Mathlib.Omega.{arith}
use lib.ListN.{length, drop}
use lib.Dec.{eqb}
use borrow.Author.Tests.{ne_eqb}
use Rattle.ascii.specs.Ascii.{Bytes, is_empty, all, between, is_digit, is_upper, is_letter, same, lower, begins_with, text}
use Rattle.ascii.proofs.Bytes.{implies, each, passes, digit_small, letter_small}
use Rattle.ascii.proofs.ListLaws.{all_append, all_weaker}
use Rattle.hosts.specs.Host.{is_label_byte}
use Rattle.origin.specs.Origin.{Authority, android_prefix, ios_prefix, is_port, is_host_byte, web_origin, is_key_hash_byte, is_android, is_ios, is_native, is_facet, shown_port, normal_web, normal_form}
use Rattle.origin.proofs.Origins.{ReadOf, origin_read, port_digits, begins_split, facet_native_else}
use Rattle.normal_forms.specs.code.Normals.{is_plain_byte}
use Rattle.normal_forms.proofs.NormalForms.{own_normal, web_normal, lower_bytes}

-- ---- one byte

module _ (b : ℕ) (h : 256 ≤ b) where
  key_small : is_key_hash_byte b ≡ false
  unfolding is_key_hash_byte
  key_small = rw (letter_small b h, digit_small b h, ne_eqb b 43 (λ e. omega arith), ne_eqb b 47 (λ e. omega arith))

  host_small : is_host_byte b ≡ false
  unfolding is_host_byte is_label_byte
  host_small = rw (letter_small b h, digit_small b h, ne_eqb b 45 (λ e. omega arith), ne_eqb b 46 (λ e. omega arith))

host_plain : (b : ℕ) → is_host_byte b ≡ true → is_plain_byte b ≡ true
unfolding is_plain_byte is_host_byte is_label_byte is_letter is_upper is_digit
host_plain = passes is_host_byte is_plain_byte (each 256 (λ b. implies (is_host_byte b) (is_plain_byte b)) tt) host_small

key_plain : (b : ℕ) → is_key_hash_byte b ≡ true → is_plain_byte b ≡ true
unfolding is_plain_byte is_key_hash_byte is_letter is_upper is_digit
key_plain = passes is_key_hash_byte is_plain_byte (each 256 (λ b. implies (is_key_hash_byte b) (is_plain_byte b)) tt) key_small

digit_plain : (b : ℕ) → is_digit b ≡ true → is_plain_byte b ≡ true
unfolding is_plain_byte is_digit
digit_plain = passes is_digit is_plain_byte (each 256 (λ b. implies (is_digit b) (is_plain_byte b)) tt) digit_small

-- ---- web origins

shown_plain : (p : Bytes) → (is_empty p || is_port p) ≡ true → all is_plain_byte (shown_port p) ≡ true
unfolding shown_port
shown_plain p e = go (is_empty p) refl (same p (text "443"))
  where
    digits : is_empty p ≡ false → all is_plain_byte p ≡ true
    digits f = let q : is_port p ≡ true = sym (ap (λ (u : Bool). u || is_port p) f) ∙ e in all_weaker is_digit is_plain_byte digit_plain p (port_digits p q)

    colon : all is_plain_byte (text ":") ≡ true
    colon = unfold all is_plain_byte in refl

    none_plain : all is_plain_byte [] ≡ true
    none_plain = unfold all in refl

    go : (u : Bool) → is_empty p ≡ u → (v : Bool) → all is_plain_byte (if u || v then [] else text ":" ++ p) ≡ true
    go true f v = none_plain
    go false f true = none_plain
    go false f false = all_append is_plain_byte (text ":") p colon (digits f)

https_plain : all is_plain_byte (text "https://") ≡ true
unfolding all is_plain_byte
https_plain = refl

web_plain : (a : Authority) (s : Bytes) → ReadOf s a → all is_plain_byte (normal_web a) ≡ true
unfolding normal_web
web_plain a s R =
    all_append is_plain_byte (text "https://" ++ lower a.host) (shown_port a.port)
    (all_append is_plain_byte (text "https://") (lower a.host) https_plain
    (all_weaker is_host_byte is_plain_byte host_plain (lower a.host) (lower_bytes a R.good_host R.host_bytes R.good_port)))
    (shown_plain a.port R.good_port)

-- ---- native identities

prefixes_plain : (all is_plain_byte android_prefix ≡ true) × (all is_plain_byte ios_prefix ≡ true)
unfolding all is_plain_byte
prefixes_plain = (refl, refl)

module _ (s : Bytes) where
  android_plain : is_android s ≡ true → all is_plain_byte s ≡ true
  unfolding is_android
  android_plain e =
      let h = (and-eq-true_iff (begins_with android_prefix s && eqb (length (drop 21 s)) 27) (all is_key_hash_byte (drop 21 s))).0 e in
      let k = (and-eq-true_iff (begins_with android_prefix s) (eqb (length (drop 21 s)) 27)).0 h.0 in
      ap (all is_plain_byte) (begins_split android_prefix s k.0)
      ∙ all_append is_plain_byte android_prefix (drop 21 s) prefixes_plain.0 (all_weaker is_key_hash_byte is_plain_byte key_plain (drop 21 s) h.1)

  ios_plain : is_ios s ≡ true → all is_plain_byte s ≡ true
  unfolding is_ios
  ios_plain e =
      let h = (and-eq-true_iff (begins_with ios_prefix s && between 1 255 (length (drop 14 s))) (all is_host_byte (drop 14 s))).0 e in
      let k = (and-eq-true_iff (begins_with ios_prefix s) (between 1 255 (length (drop 14 s)))).0 h.0 in
      ap (all is_plain_byte) (begins_split ios_prefix s k.0)
      ∙ all_append is_plain_byte ios_prefix (drop 14 s) prefixes_plain.1 (all_weaker is_host_byte is_plain_byte host_plain (drop 14 s) h.1)

  pub native_plain : is_native s ≡ true → all is_plain_byte s ≡ true
  unfolding is_native
  native_plain e = go (is_android s) refl e
    where
      go : (u : Bool) → is_android s ≡ u → (u || is_ios s) ≡ true → all is_plain_byte s ≡ true
      go true p q = android_plain p
      go false p q = ios_plain q

-- every byte of a facet's normal form is printable ASCII other than `"` and `\`
pub facet_plain : (s : Bytes) → is_facet s ≡ true → all is_plain_byte (normal_form s) ≡ true
facet_plain s h = go (web_origin s) refl
  where
    go : (o : Option Authority) → web_origin s ≡ o → all is_plain_byte (normal_form s) ≡ true
    go None e = rw (own_normal s e) (native_plain s (facet_native_else s h e))
    go (Some a) e = rw (web_normal s a e) (web_plain a s (origin_read s a e))
