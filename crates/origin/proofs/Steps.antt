-- Single steps: bytes, prefixes, tails and native identities. Assumes nothing.
use Rattle.std.specs.Prelude.{if◌then◌else◌, Option, None}
use mathlib.Core.Path.{◌≡◌, refl, ap, sym, ◌∙◌}
use mathlib.Core.Bool.{Bool, true, false, ◌&&◌, ◌||◌, not, and-false, or-true, and-eq-true_iff}
use mathlib.Core.List.{[], ◌∷◌}
use Prim.Native.Nat.{ℕ, suc, ◌+◌, ◌≤◌, ◌<◌}
use Prim.Native.Char.{code}
use native.Mathlib.Omega.{arith}
use lib.ListN.{length, drop, length-drop}
use lib.Dec.{eqb, leb, ltb}
use borrow.Author.Tests.{eq-eqb, ne_eqb, lt-leb, le-leb, lt-ltb, le-ltb, eqb-true, eqb-false}
use Rattle.ascii.specs.Ascii.{Bytes, all, take_while, is_digit, is_letter, is_upper, same, begins_with, begins_with_no_case, text, number16}
use Rattle.ascii.specs.Class.{class_of}
use Rattle.ascii.proofs.Bytes.{agree}
use Rattle.hosts.specs.Host.{is_label_byte}
use Rattle.origin.specs.Origin.{begins_https, android_prefix, ios_prefix, begins_native, is_host_byte, is_key_hash_byte, is_android, is_ios, is_native, is_tail_byte, is_tail}
use Rattle.origin.specs.code.Parts.{port_of, is_end, begins_tail}

-- ---- prefixes

pub https_is : (s : Bytes) {r : Bool} → r ≡ begins_with_no_case (text "https://") s → r ≡ begins_https s
unfolding begins_https
https_is s e = e

module _ (s : Bytes) {a : Bool} (e : a ≡ begins_with android_prefix s) where
  pub native_android : a ≡ true → true ≡ begins_native s
  unfolding begins_native
  native_android h = rw (← e, h)

  pub native_ios : {r : Bool} → a ≡ false → r ≡ begins_with ios_prefix s → r ≡ begins_native s
  unfolding begins_native
  native_ios h f = f ∙ rw (← e, h)

module _ (t : Bytes) {a : Bool} (e : a ≡ begins_with (text "/") t) where
  pub tail_slash : a ≡ true → true ≡ begins_tail t
  unfolding begins_tail
  tail_slash h = rw (← e, h)

  pub tail_question : {r : Bool} → a ≡ false → r ≡ begins_with (text "?") t → r ≡ begins_tail t
  unfolding begins_tail
  tail_question h f = f ∙ rw (← e, h)

-- ---- byte classes

-- the classes 0 to 3 are the host bytes
pub host_class : (b : ℕ) {c : ℕ} → b < 256 → c ≡ class_of b → ltb c 4 ≡ is_host_byte b
unfolding class_of is_letter is_upper is_digit is_label_byte is_host_byte
host_class b h e = rw e (agree (λ k. ltb (class_of k) 4) is_host_byte tt b h)

letter_or_digit : (b : ℕ) → b < 256 → ltb (class_of b) 2 ≡ (is_letter b || is_digit b)
unfolding class_of is_letter is_upper is_digit
letter_or_digit = agree (λ k. ltb (class_of k) 2) (λ k. is_letter k || is_digit k) tt

module _ (b : ℕ) {c : ℕ} (h : b < 256) (e : c ≡ class_of b) where
  pub key_alnum : c < 2 → true ≡ is_key_hash_byte b
  unfolding is_key_hash_byte
  key_alnum l = let f : ltb (class_of b) 2 ≡ true = rw (← e) (lt-ltb _ _ l) in rw (← letter_or_digit b h, f)

  module _ (l : 2 ≤ c) where
    pub key_plus : b ≡ 43 → true ≡ is_key_hash_byte b
    unfolding is_key_hash_byte
    key_plus k = rw (eq-eqb _ _ k, or-true)

    pub key_slash : (b ≡ 43 → ⊥) → eqb b 47 ≡ is_key_hash_byte b
    unfolding is_key_hash_byte
    key_slash n = let f : ltb (class_of b) 2 ≡ false = rw (← e) (le-ltb _ _ l) in rw (← letter_or_digit b h, f, ne_eqb _ _ n)

pub tail_low : (b : ℕ) → b < 33 → false ≡ is_tail_byte b
unfolding is_tail_byte
tail_low b h = rw (lt-leb 33 b h)

pub tail_high : (b : ℕ) → 126 < b → false ≡ is_tail_byte b
unfolding is_tail_byte
tail_high b h = rw (lt-leb b 126 h, and-false (leb 33 b))

pub tail_between : (b : ℕ) → 33 ≤ b → b ≤ 126 → not (eqb b 35) ≡ is_tail_byte b
unfolding is_tail_byte
tail_between b h k = rw (le-leb 33 b h, le-leb b 126 k)

-- ---- all bytes pass where those that do reach the end

eqb_suc : (m n : ℕ) → eqb (suc m) (suc n) ≡ eqb m n
eqb_suc m n = go (eqb m n) refl
  where
    go : (u : Bool) → eqb m n ≡ u → eqb (suc m) (suc n) ≡ u
    go true e = eq-eqb (suc m) (suc n) (ap suc (eqb-true m n e))
    go false e = ne_eqb (suc m) (suc n) (λ k. eqb-false m n e (omega arith))

pub while_whole : (f : ℕ → Bool) (l : Bytes) → eqb (length (take_while f l)) (length l) ≡ all f l
unfolding take_while all
while_whole f [] = refl
while_whole f (b ∷ l) = go (f b) (while_whole f l)
  where
    go : (u : Bool) → eqb (length (take_while f l)) (length l) ≡ all f l → eqb (length (if u then b ∷ take_while f l else [])) (length (b ∷ l)) ≡ (u && all f l)
    go true ih = eqb_suc (length (take_while f l)) (length l) ∙ ih
    go false ih = ne_eqb 0 (suc (length l)) (λ e. omega arith)

eqb_add : (k m n l : ℕ) → l ≡ k + n → eqb (k + m) l ≡ eqb m n
eqb_add k m n l g = go (eqb m n) refl
  where
    go : (u : Bool) → eqb m n ≡ u → eqb (k + m) l ≡ u
    go true e = let z : m ≡ n = eqb-true m n e in eq-eqb (k + m) l (omega arith)
    go false e = ne_eqb (k + m) l (λ z. eqb-false m n e (omega arith))

pub while_from : (f : ℕ → Bool) (s : Bytes) (k : ℕ) → k ≤ length s → eqb (k + length (take_while f (drop k s))) (length s) ≡ all f (drop k s)
while_from f s k h =
    eqb_add k (length (take_while f (drop k s))) (length (drop k s)) (length s) (omega (arith, length-drop k s)) ∙ while_whole f (drop k s)

-- ---- ports and tails

first_zero : (x p : Bytes) → begins_with (code "0" ∷ x) p ≡ true → begins_with (text "0") p ≡ true
unfolding begins_with
first_zero x [] e = e
first_zero x (c ∷ p) e = rw ((and-eq-true_iff (eqb (code "0") c) (begins_with x p)).0 e).0

-- any text that begins with a zero
pub port_zero : (p x : Bytes) {a : Bool} → a ≡ begins_with (code "0" ∷ x) p → a ≡ true → None ≡ port_of p
unfolding port_of
port_zero p x e h = rw (first_zero x p (sym e ∙ h))

pub port_number : (p : Bytes) {a : Bool} {q : Option ℕ} → a ≡ begins_with (text "0") p → a ≡ false → q ≡ number16 p → q ≡ port_of p
unfolding port_of
port_number p e h f = f ∙ rw (← e, h)

pub end_none : (t : Bytes) → length t ≡ 0 → true ≡ is_end t
unfolding is_end
end_none [] h = refl
end_none (b ∷ t) h = absurd (omega arith)

pub end_some : (t : Bytes) {r : Bool} → (length t ≡ 0 → ⊥) → r ≡ same t (text "/") → r ≡ is_end t
unfolding is_end
end_some [] n e = absurd (n refl)
end_some (b ∷ t) n e = e

pub tail_none : (t : Bytes) → length t ≡ 0 → true ≡ is_tail t
unfolding is_tail
tail_none [] h = refl
tail_none (b ∷ t) h = absurd (omega arith)

tail_is : (t : Bytes) {a : Bool} → (length t ≡ 0 → ⊥) → a ≡ begins_tail t → is_tail t ≡ (a && all is_tail_byte t)
unfolding is_tail begins_tail
tail_is [] n e = absurd (n refl)
tail_is (b ∷ t) n e = rw e

module _ (t : Bytes) {a : Bool} (n : length t ≡ 0 → ⊥) (e : a ≡ begins_tail t) where
  pub tail_begun : {i : ℕ} → a ≡ true → i ≡ 0 + length (take_while is_tail_byte t) → eqb i (length t) ≡ is_tail t
  tail_begun h f = rw (f, while_from is_tail_byte t 0 (omega arith), tail_is t n e, h)

  pub tail_other : a ≡ false → false ≡ is_tail t
  tail_other h = rw (tail_is t n e, h)

-- ---- native identities

pub android_length : (s : Bytes) → (length s ≡ 48 → ⊥) → false ≡ is_android s
unfolding is_android
android_length s n = rw (ne_eqb (length (drop 21 s)) 27 (λ e. n (omega (arith, length-drop 21 s))), and-false)

module _ (s : Bytes) {a : Bool} (l : length s ≡ 48) (e : a ≡ begins_with android_prefix s) where
  pub android_other : a ≡ false → false ≡ is_android s
  unfolding is_android
  android_other h = rw (← e, h)

  pub android_hash : {i : ℕ} → a ≡ true → i ≡ 21 + length (take_while is_key_hash_byte (drop 21 s)) → eqb i (length s) ≡ is_android s
  unfolding is_android
  android_hash h f = rw (f, while_from is_key_hash_byte s 21 (omega arith), ← e, h, eq-eqb (length (drop 21 s)) 27 (omega (arith, length-drop 21 s)))

pub ios_short : (s : Bytes) → length s < 15 → false ≡ is_ios s
unfolding is_ios
ios_short s h = rw (lt-leb 1 (length (drop 14 s)) (omega (arith, length-drop 14 s)), and-false)

pub ios_long : (s : Bytes) → 269 < length s → false ≡ is_ios s
unfolding is_ios
ios_long s h = rw (lt-leb (length (drop 14 s)) 255 (omega (arith, length-drop 14 s)), and-false, and-false)

module _ (s : Bytes) {a : Bool} (k : 15 ≤ length s) (l : length s ≤ 269) (e : a ≡ begins_with ios_prefix s) where
  pub ios_other : a ≡ false → false ≡ is_ios s
  unfolding is_ios
  ios_other h = rw (← e, h)

  pub ios_name : {i : ℕ} → a ≡ true → i ≡ 14 + length (take_while is_host_byte (drop 14 s)) → eqb i (length s) ≡ is_ios s
  unfolding is_ios
  ios_name h f =
      rw (
        f,
        while_from is_host_byte s 14 (omega arith),
        ← e,
        h,
        le-leb 1 (length (drop 14 s)) (omega (arith, length-drop 14 s)),
        le-leb (length (drop 14 s)) 255 (omega (arith, length-drop 14 s)),
      )

module _ (s : Bytes) {a : Bool} (e : a ≡ is_android s) where
  pub is_native_android : a ≡ true → true ≡ is_native s
  unfolding is_native
  is_native_android h = rw (← e, h)

  pub is_native_ios : {r : Bool} → a ≡ false → r ≡ is_ios s → r ≡ is_native s
  unfolding is_native
  is_native_ios h f = f ∙ rw (← e, h)
