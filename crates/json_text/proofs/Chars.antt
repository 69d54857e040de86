-- The ways through a string.
use Rattle.std.specs.Prelude.{if◌then◌else◌, Option, Some, None}
use mathlib.Core.Path.{◌≡◌, refl, ap, sym, ◌∙◌}
use mathlib.Core.Bool.{Bool, true, false}
use mathlib.Core.List.{[], ◌∷◌, ◌++◌}
use Prim.Native.Nat.{ℕ, suc, ◌+◌, ◌-◌, ◌≤◌, ◌<◌}
use native.Mathlib.Omega.{arith}
use lib.Dec.{eqb}
use lib.ListN.{length, drop, length-drop}
use Rattle.std.specs.Option.{option_eq}
use Rattle.ascii.specs.Ascii.{Bytes, between, among}
use Rattle.json_text.specs.Reader.{Read, got, bad, Reader, more, behind, ◌>>=◌, satisfy, fail, peek, if_next◌then◌else◌, lead◌to◌then◌else◌, mapped, as_written, verbatim, counted}
use Rattle.json_text.specs.Utf8.{utf8_tail, multibyte_char, encode_utf8}
use Rattle.json_text.specs.Lexical.{unescaped, escaped, read_char, read_chars, read_string}
use Rattle.json_text.specs.code.Places.{Peeked, read_at, place_of, point_of}
use Rattle.json_text.proofs.Steps.{wide, here, this, is_this, not_this, on, then_bad, one_yes, one_no, next_yes, next_no, give_at, counted_at, giving_at, place_verbatim, place_mapped, map_give, found, missed, point_found, point_missed}
use Rattle.json_text.proofs.Plain.{wide_c2, plain_wide}

-- ---- one character

module _ {s : Bytes} {i : ℕ} {x : Option ℕ} (p : Peeked s i x) where
  module _ (h : x ≡ Some 92) {q : Option (ℕ × ℕ)} (e : q ≡ point_of (read_at escaped s (i + 1))) where
    char_escaped : read_at read_char s i ≡ mapped encode_utf8 (read_at escaped s (i + 1))
    unfolding read_char
    char_escaped = rw (next_yes n _ _ _ refl, on _ _ _ _ (one_yes n _ refl), giving_at)
      where
        n : Peeked s i (Some 92)
        n = here p h

    pub char_wrong : q ≡ None → read_at read_char s i ≡ bad
    unfolding mapped
    char_wrong k = rw (char_escaped, point_missed _ e k)

    pub char_code : {c j : ℕ} → q ≡ Some (c, j) → read_at read_char s i ≡ got (encode_utf8 c) j
    unfolding mapped
    char_code k = rw (char_escaped, point_found _ e k)

  pub char_raw : among (92 ∷ []) (wide x) ≡ false → read_at read_char s i ≡ read_at (verbatim unescaped) s i
  unfolding read_char
  char_raw n = rw (next_no p _ _ _ n)

  pub char_plain : {q : Option ℕ} → among (92 ∷ []) (wide x) ≡ false → q ≡ place_of (read_at unescaped s i) → q ≡ place_of (read_at read_char s i)
  char_plain n r = rw (char_raw n, place_verbatim) r

  module _ {w : Bool} (t : w ≡ option_eq eqb x (Some 92)) where
    module _ (h : w ≡ true) {q : Option (ℕ × ℕ)} (f : q ≡ point_of (read_at escaped s (i + 1))) where
      pub char_bad : q ≡ None → None ≡ place_of (read_at read_char s i)
      unfolding place_of
      char_bad k = rw (char_wrong (this x 92 t h) f k)

      pub char_at : {c j : ℕ} → q ≡ Some (c, j) → Some j ≡ place_of (read_at read_char s i)
      unfolding place_of
      char_at k = rw (char_code (this x 92 t h) f k)

    module _ (h : w ≡ false) {q : Option ℕ} where
      pub char_two : {b : ℕ} → x ≡ Some b → 0xC2 ≤ b → b < 0xE0 → q ≡ place_of (read_at utf8_tail s (i + 1)) → q ≡ place_of (read_at read_char s i)
      char_two {b} e l k r = char_plain (not_this x 92 (omega arith) t h) (plain_wide p e (omega arith) (wide_c2 p e l k r))

      pub char_other : q ≡ place_of (read_at unescaped s i) → q ≡ place_of (read_at read_char s i)
      char_other r = char_plain (not_this x 92 (omega arith) t h) r

-- ---- a character takes up a byte or more, and there is one

abbrev pub Ahead : {A : Type 0} → Read A → Type 0
Ahead (got a n) = 1 ≤ n
Ahead bad = Unit {0}

ahead_more : {A : Type 0} (r : Read A) → Ahead (more 1 r)
unfolding more
ahead_more (got a n) = omega arith
ahead_more bad = tt

ahead_if : {A : Type 0} (t : Bool) (r o : Read A) → Ahead r → Ahead o → Ahead (if t then r else o)
ahead_if true r o p q = p
ahead_if false r o p q = q

ahead_one : {B : Type 0} (f : ℕ → Bool) (k : Unit {0} → Reader B) (l : Bytes) → Ahead ((satisfy f >>= k) l)
unfolding ◌>>=◌ satisfy
ahead_one f k l = go (f (peek l))
  where
    go : (t : Bool) → Ahead (behind (if t then got tt 1 else bad) l k)
    go true = unfold behind in ahead_more (k tt (drop 1 l))
    go false = unfold behind in tt

ahead_lead : {A : Type 0} (lo hi : ℕ) (p q : Reader A) (l : Bytes) → Ahead (q l) → Ahead ((lead lo to hi then p else q) l)
unfolding lead◌to◌then◌else◌
ahead_lead lo hi p q l h = ahead_if (between lo hi (peek l)) _ _ (ahead_one (between lo hi) (λ a. p) l) h

ahead_written : {A : Type 0} (l : Bytes) (r : Read A) → Ahead r → Ahead (as_written l r)
unfolding as_written
ahead_written l (got a n) h = h
ahead_written l bad h = tt

ahead_wide : (l : Bytes) → Ahead (multibyte_char l)
unfolding multibyte_char fail
ahead_wide l =
    ahead_lead 0xC2 0xDF _ _ l (ahead_lead 0xE0 0xE0 _ _ l (ahead_lead 0xE1 0xEC _ _ l (ahead_lead 0xED 0xED _ _ l
    (ahead_lead 0xEE 0xEF _ _ l (ahead_lead 0xF0 0xF0 _ _ l (ahead_lead 0xF1 0xF3 _ _ l (ahead_lead 0xF4 0xF4 _ _ l tt)))))))

ahead_plain : (l : Bytes) → Ahead (unescaped l)
unfolding unescaped
ahead_plain l = ahead_lead 0x20 0x21 _ _ l (ahead_lead 0x23 0x5B _ _ l (ahead_lead 0x5D 0x7F _ _ l (ahead_wide l)))

pub ahead_char : (l : Bytes) → Ahead (read_char l)
unfolding read_char if_next◌then◌else◌ verbatim
ahead_char l = ahead_if (among (92 ∷ []) (peek l)) _ _ (ahead_one (among (92 ∷ [])) _ l) (ahead_written l (unescaped l) (ahead_plain l))

no_char : read_char [] ≡ bad
unfolding read_char if_next◌then◌else◌ verbatim peek unescaped multibyte_char lead◌to◌then◌else◌ fail as_written
no_char = refl

moved : {A : Type 0} (r : Read A) (i : ℕ) {a : A} {j : ℕ} → Ahead r → more i r ≡ got a j → i < j
unfolding more
moved (got b n) i {a} {j} h e = let z : i + n ≡ j = cc in omega arith
moved bad i h e = let z : ◌≡◌ {A = ℕ} 0 1 = cc in absurd (omega arith)

nothing : {A B : Type 0} (i : ℕ) {j : ℕ} {c : B} → more {A = B} i bad ≡ got c j → A
unfolding more
nothing i e = let z : ◌≡◌ {A = ℕ} 0 1 = cc in absurd (omega arith)

pub char_moves : (s : Bytes) (i : ℕ) {c : Bytes} {j : ℕ} → read_at read_char s i ≡ got c j → (i < j) × (i < length s)
unfolding read_at
char_moves s i {c} {j} e = (moved (read_char (drop i s)) i (ahead_char (drop i s)) e, go (drop i s) refl e)
  where
    go : (l : Bytes) → drop i s ≡ l → more i (read_char l) ≡ got c j → i < length s
    go [] f h = nothing i (rw no_char at h)
    go (b ∷ l) f h = omega (arith, simp length-drop at (ap length f))

-- ---- the characters up to the closing quote

module _ {s : Bytes} {i : ℕ} {b : Option ℕ} (g : Peeked s i b) (n : ℕ) where
  pub chars_end : among (34 ∷ []) (wide b) ≡ true → read_at (read_chars (suc n)) s i ≡ got [] (i + 1)
  unfolding read_chars
  chars_end h = rw (next_yes g _ _ _ h, on _ _ _ _ (one_yes g _ h), give_at)

  module _ (h : among (34 ∷ []) (wide b) ≡ false) where
    pub chars_stop : read_at read_char s i ≡ bad → read_at (read_chars (suc n)) s i ≡ bad
    unfolding read_chars
    chars_stop e = rw (next_no g _ _ _ h, then_bad _ _ _ _ e)

    pub chars_step : {c : Bytes} {j : ℕ} → read_at read_char s i ≡ got c j → read_at (read_chars (suc n)) s i ≡ mapped (λ cs. c ++ cs) (read_at (read_chars n) s j)
    unfolding read_chars
    chars_step {c} {j} e = rw (next_no g _ _ _ h, on _ _ _ _ e) (map_give (read_chars n) (λ cs. c ++ cs) s j)

-- at i the loop is among the characters, and what it returns in the end is `goal`
pub record Spells (s : Bytes) (goal : Option ℕ) (i : ℕ) : Type 0 where
  pub fuel : ℕ
  pub enough : length s - i ≤ fuel
  pub is : place_of (read_at (read_chars (suc fuel)) s i) ≡ goal

pub spells_starts : (s : Bytes) (i : ℕ) → Spells s (place_of (read_at (counted read_chars) s i)) i
spells_starts s i = record { fuel = length (drop i s); enough = simp length-drop (omega arith); is = sym (ap place_of (counted_at read_chars s i)) }

module _ {s : Bytes} {goal : Option ℕ} {i : ℕ} {b : Option ℕ} {w : Bool} (L : Spells s goal i) (g : Peeked s i b) (t : w ≡ option_eq eqb b (Some 34)) where
  pub spells_end : w ≡ true → Some (i + 1) ≡ goal
  unfolding place_of
  spells_end h = let z : place_of (read_at (read_chars (suc L.fuel)) s i) ≡ Some (i + 1) = rw (chars_end g L.fuel (is_this b 34 t h)) in sym z ∙ L.is

  module _ (h : w ≡ false) {q : Option ℕ} (e : q ≡ place_of (read_at read_char s i)) where
    pub spells_bad : q ≡ None → None ≡ goal
    unfolding place_of
    spells_bad k = let z : place_of (read_at (read_chars (suc L.fuel)) s i) ≡ None = rw (chars_stop g L.fuel (not_this b 34 (omega arith) t h) (missed _ e k)) in sym z ∙ L.is

    pub spells_less : {j : ℕ} → q ≡ Some j → length s - j < length s - i
    spells_less k = omega (arith, char_moves s i (found _ e k).1)

    pub spells_more : {j : ℕ} → q ≡ Some j → Spells s goal j
    spells_more {j} k =
        let f = found (read_at read_char s i) e k in
        let l : length s - j < length s - i = spells_less k in
        let m : L.fuel ≡ suc (L.fuel - 1) = omega (arith, L.enough) in
        let z : place_of (read_at (read_chars (suc L.fuel)) s i) ≡ place_of (read_at (read_chars L.fuel) s j) =
        rw (chars_step g L.fuel (not_this b 34 (omega arith) t h) f.1) (place_mapped (λ cs. f.0 ++ cs) (read_at (read_chars L.fuel) s j)) in
        record { fuel = L.fuel - 1; enough = omega (arith, L.enough); is = rw (← m) (sym z ∙ L.is) }

-- ---- a string

module _ {s : Bytes} {i : ℕ} {b : Option ℕ} {w : Bool} (g : Peeked s i b) (t : w ≡ option_eq eqb b (Some 34)) where
  pub string_bad : w ≡ false → None ≡ place_of (read_at read_string s i)
  unfolding read_string place_of
  string_bad h = rw (then_bad _ _ _ _ (one_no g _ (not_this b 34 (omega arith) t h)))

  pub string_some : {q : Option ℕ} → w ≡ true → q ≡ place_of (read_at (counted read_chars) s (i + 1)) → q ≡ place_of (read_at read_string s i)
  unfolding read_string
  string_some h r = rw (on _ _ _ _ (one_yes g _ (is_this b 34 t h))) r
