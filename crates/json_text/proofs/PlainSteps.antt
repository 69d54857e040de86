-- A string without escapes: its bytes as they stand.
use Rattle.std.specs.Prelude.{if◌then◌else◌, slice_get, Option, Some, None}
use mathlib.Core.Path.{◌≡◌, refl, ap, sym, ◌∙◌}
use mathlib.Core.Bool.{Bool, true, false, not, and-eq-true_iff}
use mathlib.Core.List.{[], ◌∷◌, ◌++◌}
use Prim.Native.Nat.{ℕ, zero, suc, ◌+◌, ◌-◌, ◌≤◌, ◌<◌}
use native.Mathlib.Nat.{lt_irrefl, add-zero}
use native.Mathlib.Omega.{arith}
use borrow.Author.Tests.{eqb-true, eqb-false, leb-true, leb-false, ne_eqb, eq-eqb}
use lib.Dec.{eqb, leb}
use Rattle.std.specs.Option.{option_eq}
use lib.ListN.{length, take, drop}
use lib.Seq.{drop-drop, take-add}
use Rattle.ascii.specs.Ascii.{Bytes, between, among}
use Rattle.json_text.specs.Reader.{Read, got, bad, Reader, more, behind, ◌>>=◌, ◌>>◌, give, fail, peek, satisfy, byte_range, count_while, many, lead◌to◌then◌else◌, mapped}
use Rattle.json_text.specs.Utf8.{utf8_tail, then_tail, then_tails, multibyte_char}
use Rattle.json_text.specs.Lexical.{unescaped, read_char, read_chars, read_string}
use Rattle.json_text.specs.code.Places.{Peeked, read_at, place_of}
use Rattle.json_text.specs.code.PlainString.{is_plain, is_ascii_char, AsciiString, is_short, is_unknown, in_the_text, no_place, plain_string, other_string, PlainIs}
use Rattle.json_text.proofs.Steps.{not_false, wide, seen, in_text, here, peeks, at_front, this, on, then_bad, one_yes, one_no, counted_at, is_one, not_one, fail_at, between_tells}
use Rattle.json_text.proofs.Plain.{plain_20, plain_23, plain_5d}
use Rattle.json_text.proofs.Chars.{char_raw, char_plain, chars_end, chars_stop, chars_step, Spells, spells_starts, spells_end, spells_more, string_some}
use Rattle.json_text.proofs.Holding.{verbatim_at, verbatim_bad}

-- ---- plain bytes

plain_yes : (b : ℕ) → (b ≡ 34 → ⊥) → (b ≡ 92 → ⊥) → is_plain b ≡ true
unfolding is_plain
plain_yes b h k = rw (ne_eqb b 34 h, ne_eqb b 92 k)

plain_not : (b : ℕ) → b ≡ 34 → is_plain b ≡ false
unfolding is_plain
plain_not b h = rw (eq-eqb b 34 h)

plain_back : (b : ℕ) → b ≡ 92 → is_plain b ≡ false
unfolding is_plain
plain_back b h = rw h

-- how many plain bytes stand at the front
abbrev plains : Bytes → ℕ
plains l = count_while is_plain l

plains_drop : (k : ℕ) (l : Bytes) → k ≤ plains l → plains (drop k l) ≡ plains l - k
unfolding count_while
plains_drop zero l h = omega arith
plains_drop (suc k) [] h = omega arith
plains_drop (suc k) (b ∷ l) h = go (is_plain b) h (λ m. plains_drop k l m)
  where
    go : (u : Bool) → suc k ≤ (if u then suc (plains l) else 0) → (k ≤ plains l → plains (drop k l) ≡ plains l - k) → plains (drop k l) ≡ (if u then suc (plains l) else 0) - suc k
    go true h f = let z : plains (drop k l) ≡ plains l - k = f (omega arith) in omega arith
    go false h f = absurd (omega arith)

-- ---- a character that is not escaped takes up plain bytes only

-- what is read at the front of l
abbrev Clear : {A : Type 0} → Bytes → Read A → Type 0
Clear l (got a n) = n ≤ plains l
Clear l bad = Unit {0}

-- bytes that are plain, and less than 256
abbrev Band : ℕ → ℕ → Type 0
Band lo hi = (b : ℕ) → lo ≤ b → b ≤ hi → (is_plain b ≡ true) × (b < 256)

band_low : (lo hi : ℕ) → hi < 34 → Band lo hi
band_low lo hi h = λ b x y. (plain_yes b (λ e. omega arith) (λ e. omega arith), omega arith)

band_middle : (lo hi : ℕ) → 34 < lo → hi < 92 → Band lo hi
band_middle lo hi h k = λ b x y. (plain_yes b (λ e. omega arith) (λ e. omega arith), omega arith)

band_high : (lo hi : ℕ) → 92 < lo → hi < 256 → Band lo hi
band_high lo hi h k = λ b x y. (plain_yes b (λ e. omega arith) (λ e. omega arith), omega arith)

clear_if : {A : Type 0} (l : Bytes) (t : Bool) (r o : Read A) → (t ≡ true → Clear l r) → Clear l o → Clear l (if t then r else o)
clear_if l true r o p q = p refl
clear_if l false r o p q = q

clear_more : {A : Type 0} (b : ℕ) (l : Bytes) → is_plain b ≡ true → (r : Read A) → Clear l r → Clear (b ∷ l) (more 1 r)
unfolding more count_while
clear_more b l e (got a n) h = rw e (omega arith)
clear_more b l e bad h = tt

module _ {A : Type 0} (lo hi : ℕ) (B : Band lo hi) (p : Reader A) (P : (l : Bytes) → Clear l (p l)) where
  clear_then : (l : Bytes) → Clear l ((byte_range lo hi >> p) l)
  unfolding ◌>>=◌ satisfy
  clear_then l = go l (between lo hi (peek l)) refl
    where
      empty : between lo hi (peek []) ≡ true → ⊥
      empty e = unfold peek in (let x = between_tells lo hi 256 e in lt_irrefl 256 (B 256 x.0 x.1).1)

      front : (b : ℕ) (l : Bytes) → between lo hi (peek (b ∷ l)) ≡ true → is_plain b ≡ true
      front b l e = unfold peek in (let x = between_tells lo hi b e in (B b x.0 x.1).0)

      go : (l : Bytes) (u : Bool) → between lo hi (peek l) ≡ u → Clear l (behind (if u then got (tt {0}) 1 else bad) l (λ a. p))
      go l false e = unfold behind in tt
      go [] true e = absurd (empty e)
      go (b ∷ l) true e = unfold behind in clear_more b l (front b l e) (p l) (P l)

  clear_lead : (q : Reader A) → ((l : Bytes) → Clear l (q l)) → (l : Bytes) → Clear l ((lead lo to hi then p else q) l)
  unfolding lead◌to◌then◌else◌
  clear_lead q Q l = clear_if l (between lo hi (peek l)) ((byte_range lo hi >> p) l) (q l) (λ e. clear_then l) (Q l)

clear_give : (l : Bytes) → Clear l (give (tt {0}) l)
unfolding give
clear_give l = omega arith

clear_fail : (l : Bytes) → Clear l (fail {A = Unit {0}} l)
unfolding fail
clear_fail l = tt

-- one byte is one byte and nothing behind it
clear_one : (lo hi : ℕ) → Band lo hi → (l : Bytes) → Clear l (byte_range lo hi l)
unfolding satisfy
clear_one lo hi B l = go l (between lo hi (peek l)) refl
  where
    go : (l : Bytes) (u : Bool) → between lo hi (peek l) ≡ u → Clear l (if u then got (tt {0}) 1 else bad)
    go l false e = tt
    go [] true e = absurd (empty e)
      where
        empty : between lo hi (peek []) ≡ true → ⊥
        empty e = unfold peek in (let x = between_tells lo hi 256 e in lt_irrefl 256 (B 256 x.0 x.1).1)
    go (b ∷ l) true e = front e
      where
        front : between lo hi (peek (b ∷ l)) ≡ true → 1 ≤ plains (b ∷ l)
        front e = unfold peek count_while in (let x = between_tells lo hi b e in rw (B b x.0 x.1).0 (omega arith))

clear_tail : (lo hi : ℕ) → 92 < lo → hi < 256 → (l : Bytes) → Clear l (then_tail lo hi l)
clear_tail lo hi h k = clear_then lo hi (band_high lo hi h k) utf8_tail (clear_one 0x80 0xBF (band_high 0x80 0xBF (omega arith) (omega arith)))

clear_tails : (lo hi : ℕ) → 92 < lo → hi < 256 → (l : Bytes) → Clear l (then_tails lo hi l)
clear_tails lo hi h k = clear_then lo hi (band_high lo hi h k) _ (clear_tail 0x80 0xBF (omega arith) (omega arith))

clear_wide : (l : Bytes) → Clear l (multibyte_char l)
unfolding multibyte_char
clear_wide l =
    high 0xC2 0xDF (omega arith) (omega arith) _ (clear_one 0x80 0xBF (band_high 0x80 0xBF (omega arith) (omega arith))) _
    (high 0xE0 0xE0 (omega arith) (omega arith) _ (clear_tail 0xA0 0xBF (omega arith) (omega arith)) _
    (high 0xE1 0xEC (omega arith) (omega arith) _ (clear_tail 0x80 0xBF (omega arith) (omega arith)) _
    (high 0xED 0xED (omega arith) (omega arith) _ (clear_tail 0x80 0x9F (omega arith) (omega arith)) _
    (high 0xEE 0xEF (omega arith) (omega arith) _ (clear_tail 0x80 0xBF (omega arith) (omega arith)) _
    (high 0xF0 0xF0 (omega arith) (omega arith) _ (clear_tails 0x90 0xBF (omega arith) (omega arith)) _
    (high 0xF1 0xF3 (omega arith) (omega arith) _ (clear_tails 0x80 0xBF (omega arith) (omega arith)) _
    (high 0xF4 0xF4 (omega arith) (omega arith) _ (clear_tails 0x80 0x8F (omega arith) (omega arith)) _ clear_fail))))))) l
  where
    high : (lo hi : ℕ) → 92 < lo → hi < 256 → (p : Reader (Unit {0})) → ((l : Bytes) → Clear l (p l)) → (q : Reader (Unit {0})) → ((l : Bytes) → Clear l (q l))
        → (l : Bytes) → Clear l ((lead lo to hi then p else q) l)
    high lo hi h k p P q Q = clear_lead lo hi (band_high lo hi h k) p P q Q

clear_char : (l : Bytes) → Clear l (unescaped l)
unfolding unescaped
clear_char l =
    clear_lead 0x20 0x21 (band_low 0x20 0x21 (omega arith)) _ clear_give _
    (clear_lead 0x23 0x5B (band_middle 0x23 0x5B (omega arith) (omega arith)) _ clear_give _
    (clear_lead 0x5D 0x7F (band_high 0x5D 0x7F (omega arith) (omega arith)) _ clear_give _ clear_wide)) l

clear_at : (s : Bytes) (i : ℕ) {u : Unit {0}} {j : ℕ} → read_at unescaped s i ≡ got u j → (i ≤ j) × (j - i ≤ plains (drop i s))
unfolding read_at
clear_at s i {u} {j} e = go (unescaped (drop i s)) (clear_char (drop i s)) e
  where
    go : (r : Read (Unit {0})) → Clear (drop i s) r → more i r ≡ got u j → (i ≤ j) × (j - i ≤ plains (drop i s))
    go (got a n) c e = unfold more in (let z : i + n ≡ j = cc in (omega arith, omega arith))
    go bad c e = unfold more in (let z : ◌≡◌ {A = ℕ} 0 1 = cc in absurd (omega arith))

drop_to : (s : Bytes) (i k : ℕ) → i ≤ k → drop (k - i) (drop i s) ≡ drop k s
drop_to s i k h = let z : i + (k - i) ≡ k = omega arith in drop-drop (k - i) i s ∙ ap (λ (n : ℕ). drop n s) z

plains_to : (s : Bytes) (i k : ℕ) → i ≤ k → k - i ≤ plains (drop i s) → plains (drop k s) ≡ plains (drop i s) - (k - i)
plains_to s i k h m = ap plains (sym (drop_to s i k h)) ∙ plains_drop (k - i) (drop i s) m

-- ---- the characters up to a quotation mark, none of them escaped

is_now : (s : Bytes) (i n : ℕ) → peek (drop i s) ≡ n → among (n ∷ []) (wide (slice_get s i)) ≡ true
is_now s i n e = rw (seen (peeks s i)) (is_one (peek (drop i s)) n e)

not_now : (s : Bytes) (i n : ℕ) → (peek (drop i s) ≡ n → ⊥) → among (n ∷ []) (wide (slice_get s i)) ≡ false
not_now s i n e = rw (seen (peeks s i)) (not_one (peek (drop i s)) n e)

-- the plain bytes from i on, and the place behind the quotation mark that follows them
pub record Whole (s : Bytes) (i : ℕ) (x : Bytes) (j : ℕ) : Type 0 where
  pub is : x ≡ take (plains (drop i s)) (drop i s)
  pub end : j ≡ i + plains (drop i s) + 1

plains_none : (l : Bytes) → is_plain (peek l) ≡ false → plains l ≡ 0
unfolding count_while peek
plains_none [] e = refl
plains_none (b ∷ l) e = rw e

module _ (s : Bytes) where
  whole_end : (i : ℕ) {x : Bytes} {j : ℕ} → peek (drop i s) ≡ 34 → ◌≡◌ {A = Read Bytes} (got [] (i + 1)) (got x j) → Whole s i x j
  whole_end i {x} {j} h e =
      let z : plains (drop i s) ≡ 0 = plains_none (drop i s) (plain_not (peek (drop i s)) h) in
      let y : [] ≡ x = cc in
      let w : i + 1 ≡ j = cc in
      record { is = sym y ∙ sym (ap (λ (n : ℕ). take n (drop i s)) z); end = omega arith }

  -- one character, and what follows it
  whole_on : (i k : ℕ) (c y : Bytes) (j : ℕ) → i ≤ k → k - i ≤ plains (drop i s) → c ≡ take (k - i) (drop i s) → Whole s k y j → Whole s i (c ++ y) j
  whole_on i k c y j h m f W =
      let d : plains (drop k s) ≡ plains (drop i s) - (k - i) = plains_to s i k h m in
      let e : (k - i) + plains (drop k s) ≡ plains (drop i s) = omega arith in
      let t : take (plains (drop i s)) (drop i s) ≡ take (k - i) (drop i s) ++ take (plains (drop k s)) (drop k s) =
      ap (λ (n : ℕ). take n (drop i s)) (sym e) ∙ take-add (k - i) (plains (drop k s)) (drop i s) ∙ ap (λ (l : Bytes). take (k - i) (drop i s) ++ take (plains (drop k s)) l) (drop_to s i k h) in
      record { is = rw (f, W.is) (sym t); end = omega (arith, W.end) }

  module _ (i : ℕ) (n : ℕ) (rest : (k : ℕ) (y : Bytes) (j : ℕ) → read_at (read_chars n) s k ≡ got y j → peek (drop (k + plains (drop k s)) s) ≡ 34 → Whole s k y j) where
    whole_step : {x : Bytes} {j : ℕ} → read_at (read_chars (suc n)) s i ≡ got x j → peek (drop (i + plains (drop i s)) s) ≡ 34 → (peek (drop i s) ≡ 34 → ⊥) → (peek (drop i s) ≡ 92 → ⊥) → Whole s i x j
    whole_step {x} {j} e h k m = go (read_at unescaped s i) refl
      where
        g : Peeked s i (slice_get s i)
        g = peeks s i

        read : (r : Read Bytes) (c : Bytes) → mapped (λ cs. c ++ cs) r ≡ got x j → (y : Bytes) × (r ≡ got y j) × (x ≡ c ++ y)
        read (got y q) c f = unfold mapped in (let z : q ≡ j = cc in let w : c ++ y ≡ x = cc in (y, ap (got y) z, sym w))
        read bad c f = unfold mapped in (let z : ◌≡◌ {A = ℕ} 0 1 = cc in absurd (omega arith))

        go : (r : Read (Unit {0})) → read_at unescaped s i ≡ r → Whole s i x j
        go bad f =
            let y : ◌≡◌ {A = Read Bytes} bad (got x j) = sym (chars_stop g n (not_now s i 34 k) (char_raw g (not_now s i 92 m) ∙ verbatim_bad unescaped s i f)) ∙ e in
            let z : ◌≡◌ {A = ℕ} 0 1 = cc in
            absurd (omega arith)
        go (got u q) f =
            let a = clear_at s i f in
            let w = chars_step g n (not_now s i 34 k) (char_raw g (not_now s i 92 m) ∙ verbatim_at unescaped s i f) in
            let p = read (read_at (read_chars n) s q) (take (q - i) (drop i s)) (sym w ∙ e) in
            let d : plains (drop q s) ≡ plains (drop i s) - (q - i) = plains_to s i q a.0 a.1 in
            let o : q + plains (drop q s) ≡ i + plains (drop i s) = omega (arith, a.0, a.1) in
            rw p.2 (whole_on i q (take (q - i) (drop i s)) p.0 j a.0 a.1 refl (rest q p.0 j p.1 (rw o h)))

  pub whole_at : (n i : ℕ) {x : Bytes} {j : ℕ} → read_at (read_chars n) s i ≡ got x j → peek (drop (i + plains (drop i s)) s) ≡ 34 → Whole s i x j
  unfolding read_chars
  whole_at zero i {x} {j} e h =
      let y : ◌≡◌ {A = Read Bytes} bad (got x j) = sym (fail_at s i) ∙ e in
      let z : ◌≡◌ {A = ℕ} 0 1 = cc in
      absurd (omega arith)
  whole_at (suc n) i {x} {j} e h = go (eqb (peek (drop i s)) 34) (eqb (peek (drop i s)) 92) refl refl (λ k y m. whole_at n k)
    where
      go : (u v : Bool) → eqb (peek (drop i s)) 34 ≡ u → eqb (peek (drop i s)) 92 ≡ v
          → ((k : ℕ) (y : Bytes) (m : ℕ) → read_at (read_chars n) s k ≡ got y m → peek (drop (k + plains (drop k s)) s) ≡ 34 → Whole s k y m) → Whole s i x j
      go true v f k r =
          let b : peek (drop i s) ≡ 34 = eqb-true (peek (drop i s)) 34 f in
          whole_end i b (sym (chars_end (peeks s i) n (is_now s i 34 b)) ∙ e)
      go false true f k r =
          let b : peek (drop i s) ≡ 92 = eqb-true (peek (drop i s)) 92 k in
          let z : plains (drop i s) ≡ 0 = plains_none (drop i s) (plain_back (peek (drop i s)) b) in
          let a : i + plains (drop i s) ≡ i = omega arith in
          let d : peek (drop i s) ≡ 34 = rw a at h in
          absurd (eqb-false (peek (drop i s)) 34 f d)
      go false false f k r = whole_step i n r e h (eqb-false (peek (drop i s)) 34 f) (eqb-false (peek (drop i s)) 92 k)

-- ---- characters of one byte

ascii_tells : (b : ℕ) → is_ascii_char b ≡ true → (0x20 ≤ b) × (b ≤ 0x7F) × (b ≡ 34 → ⊥) × (b ≡ 92 → ⊥)
unfolding is_ascii_char
ascii_tells b e =
    let x = (and-eq-true_iff (between 0x20 0x7F b) (is_plain b)).0 e in
    let y = between_tells 0x20 0x7F b x.0 in
    (y.0, y.1, λ h. not_both (plain_not b h) x.1, λ h. not_both (plain_back b h) x.1)
  where
    not_both : is_plain b ≡ false → is_plain b ≡ true → ⊥
    not_both f g = let z : true ≡ false = sym g ∙ f in let w : ◌≡◌ {A = ℕ} 0 1 = cc in omega arith

-- it is read as a character of one byte
ascii_char : {s : Bytes} {i b : ℕ} → Peeked s i (Some b) → is_ascii_char b ≡ true → Some (i + 1) ≡ place_of (read_at read_char s i)
ascii_char {s} {i} {b} g e =
    let x = ascii_tells b e in
    char_plain g (not_one b 92 x.3) (go (leb b 0x21) (leb b 0x5B) refl refl x.0 x.1 x.2 x.3)
  where
    go : (u v : Bool) → leb b 0x21 ≡ u → leb b 0x5B ≡ v → 0x20 ≤ b → b ≤ 0x7F → (b ≡ 34 → ⊥) → (b ≡ 92 → ⊥) → Some (i + 1) ≡ place_of (read_at unescaped s i)
    go true v f h l m n p = plain_20 g refl l (omega arith) (omega (arith, leb-true b 0x21 f))
    go false true f h l m n p = plain_23 g refl (omega (arith, leb-false b 0x21 f)) (omega (arith, leb-true b 0x5B h))
    go false false f h l m n p = plain_5d g refl (omega (arith, leb-false b 0x5B h)) (omega arith)

-- past the characters of one byte
ascii_on : (m : ℕ) (s : Bytes) (goal : Option ℕ) (i : ℕ) → count_while is_ascii_char (drop i s) ≡ m → Spells s goal i → Spells s goal (i + m)
ascii_on zero s goal i e L = rw (add-zero i) L
ascii_on (suc m) s goal i e L = go (drop i s) refl e (λ z M. ascii_on m s goal (i + 1) z M)
  where
    on_one : (b : ℕ) (l : Bytes) → drop i s ≡ b ∷ l → is_ascii_char b ≡ true → count_while is_ascii_char l ≡ m → (count_while is_ascii_char (drop (i + 1) s) ≡ m → Spells s goal (i + 1) → Spells s goal (i + 1 + m)) → Spells s goal (i + suc m)
    on_one b l f c d rest =
        let g : Peeked s i (Some b) = at_front f in
        let M = spells_more L g refl (ne_eqb b 34 (ascii_tells b c).2) (ascii_char g c) refl in
        let n : drop (i + 1) s ≡ l = sym (drop-drop 1 i s) ∙ ap (drop 1) f in
        let z : count_while is_ascii_char (drop (i + 1) s) ≡ m = ap (count_while is_ascii_char) n ∙ d in
        let w : i + 1 + m ≡ i + suc m = omega arith in
        rw w at (rest z M)

    go : (l : Bytes) → drop i s ≡ l → count_while is_ascii_char l ≡ suc m → (count_while is_ascii_char (drop (i + 1) s) ≡ m → Spells s goal (i + 1) → Spells s goal (i + 1 + m)) → Spells s goal (i + suc m)
    go [] f e rest = unfold count_while in (let w : ◌≡◌ {A = ℕ} 0 1 = omega arith in absurd (omega arith))
    go (b ∷ l) f e rest = unfold count_while in (front (is_ascii_char b) refl e)
      where
        front : (u : Bool) → is_ascii_char b ≡ u → (if u then suc (count_while is_ascii_char l) else 0) ≡ suc m → Spells s goal (i + suc m)
        front true c e = on_one b l f c (omega arith) rest
        front false c e = absurd (omega arith)

module _ {s : Bytes} {goal : Option ℕ} {i k : ℕ} (L : Spells s goal i) (e : read_at (many is_ascii_char) s i ≡ got tt k) where
  on_to : Spells s goal k
  on_to = go e
    where
      go : read_at (many is_ascii_char) s i ≡ got tt k → Spells s goal k
      go e = unfold read_at many more in (let z : i + count_while is_ascii_char (drop i s) ≡ k = cc in rw z at (ascii_on (count_while is_ascii_char (drop i s)) s goal i refl L))

pub ascii_none : (s : Bytes) (from : ℕ) → AsciiString s from None
ascii_none s from = is_unknown

pub ascii_string : (s : Bytes) (from : ℕ) {k : ℕ} {b c : Option ℕ} {u w : Bool} → Peeked s from b → u ≡ not (option_eq eqb b (Some 34)) → u ≡ false → read_at (many is_ascii_char) s (from + 1) ≡ got tt k
    → Peeked s k c → w ≡ option_eq eqb c (Some 34) → w ≡ true → AsciiString s from (Some (k + 1))
ascii_string s from {b} g t h e f y z =
    let v : option_eq eqb b (Some 34) ≡ true = not_false (option_eq eqb b (Some 34)) (sym t ∙ h) in
    is_short (here g (this b 34 refl v)) (string_some g refl v (spells_end (on_to (spells_starts s (from + 1)) e) f y z))

-- ---- the string at a place

module _ {s : Bytes} {from : ℕ} {b : Option ℕ} (g : Peeked s from b) where
  string_on : among (34 ∷ []) (wide b) ≡ true → read_at read_string s from ≡ read_at (read_chars (suc (length (drop (from + 1) s)))) s (from + 1)
  unfolding read_string
  string_on h = on _ _ _ _ (one_yes g _ h) ∙ counted_at read_chars s (from + 1)

  string_off : among (34 ∷ []) (wide b) ≡ false → read_at read_string s from ≡ bad
  unfolding read_string
  string_off h = then_bad _ _ _ _ (one_no g _ h)

module _ (s : Bytes) (from : ℕ) {x : Bytes} {j : ℕ} (e : read_at read_string s from ≡ got x j) where
  chars_of : read_at (read_chars (suc (length (drop (from + 1) s)))) s (from + 1) ≡ got x j
  chars_of = go (eqb (peek (drop from s)) 34) refl
    where
      g : Peeked s from (slice_get s from)
      g = peeks s from

      go : (u : Bool) → eqb (peek (drop from s)) 34 ≡ u → read_at (read_chars (suc (length (drop (from + 1) s)))) s (from + 1) ≡ got x j
      go true h = sym (string_on g (is_now s from 34 (eqb-true (peek (drop from s)) 34 h))) ∙ e
      go false h =
          let y : ◌≡◌ {A = Read Bytes} bad (got x j) = sym (string_off g (not_now s from 34 (eqb-false (peek (drop from s)) 34 h))) ∙ e in
          let z : ◌≡◌ {A = ℕ} 0 1 = cc in
          absurd (omega arith)

-- ---- its end, where it has no escapes

pub plain_none : (s : Bytes) (from : ℕ) → PlainIs s from None
plain_none s from = record { within = no_place; is = λ x j e. other_string }

plain_to : (s : Bytes) (from : ℕ) {i : ℕ} → read_at (many is_plain) s (from + 1) ≡ got tt i → from + 1 + plains (drop (from + 1) s) ≡ i
unfolding read_at many more
plain_to s from e = cc

pub plain_found : {s : Bytes} {from i : ℕ} {b : Option ℕ} {w : Bool} → read_at (many is_plain) s (from + 1) ≡ got tt i → Peeked s i b → w ≡ option_eq eqb b (Some 34) → w ≡ true → PlainIs s from (Some i)
plain_found {s} {from} {i} {b} R g t k =
    let p = plain_to s from R in
    let h : Peeked s i (Some 34) = here g (this b 34 t k) in
    let m : plains (drop (from + 1) s) ≡ i - (from + 1) = omega arith in
    record {
      within = in_the_text (omega arith) (in_text s i h);
      is = λ x j e.
          let W = whole_at s _ (from + 1) (chars_of s from e) (rw p (sym (seen h))) in
          plain_string {q = i} (omega (arith, W.end)) (W.is ∙ ap (λ (n : ℕ). take n (drop (from + 1) s)) m);
    }
