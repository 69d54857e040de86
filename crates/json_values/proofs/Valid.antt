-- A text that is read is UTF-8, byte by byte (RFC 3629): the strings' own tests suffice.
use Rattle.std.specs.Prelude.{if◌then◌else◌, Option, None, Some}
use mathlib.Core.Path.{◌≡◌, refl, sym, ◌∙◌}
use mathlib.Core.List.{[], ◌∷◌, ◌++◌}
use mathlib.Core.Bool.{Bool, true, false, ◌&&◌, ◌||◌}
use Prim.Native.Nat.{ℕ, zero, suc, ◌+◌, ◌-◌, ◌*◌, ◌≤◌, ◌<◌}
use native.Mathlib.Omega.{arith}
use borrow.Author.Tests.{le-leb, lt-leb, leb-true, eqb-true}
use lib.ListN.{length, drop}
use lib.Seq.{drop-drop}
use lib.Dec.{eqb, leb}
use Rattle.ascii.specs.Ascii.{Bytes, is_empty, between, among, is_digit, text}
use Rattle.json_text.specs.Reader.{Read, got, bad, Reader, more, behind, ◌>>=◌, ◌>>◌, give, fail, end_of_text, peek, satisfy, one_byte, one_of, byte_range, count_while, many, word, if_next◌then◌else◌, lead◌to◌then◌else◌, either_read, ◌or◌, mapped, ◌giving◌, as_written, verbatim, counted}
use Rattle.json_text.specs.Utf8.{then_tail, then_tails, multibyte_char, encode_utf8, Due, due, lead_byte, next_byte, utf8_from, is_utf8}
use Rattle.json_text.specs.Lexical.{is_blank, ws, digits, int, frac, exp, read_number, unescaped, hex_value, hex_digit, hex4, low_after, code_point, escaped, read_char, read_chars, read_string}
use Rattle.json_values.specs.Json.{Json, number, string, array, object, to_items, to_members, items, listed, read_member, read_array, read_object, value_of, read_value, read_text, value_read, read_json}
use Rattle.json_text.proofs.Steps.{inside, above}
use Rattle.json_text.proofs.EscapeSteps.{hex_last}

abbrev pub start : Due
start = due 0 0 0

-- from the state d, what p takes up leads to the state d'
abbrev pub Goes : {A : Type 0} → Due → Due → Bytes → Read A → Type 0
Goes d d' l (got a n) = utf8_from d l ≡ utf8_from d' (drop n l)
Goes d d' l bad = Unit {0}

pub record Leads {A : Type 0} (d : Due) (p : Reader A) (d' : Due) : Type 0 where
  pub at : (l : Bytes) → Goes d d' l (p l)

-- whole characters
abbrev pub Whole : {A : Type 0} → Reader A → Type 0
Whole p = Leads start p start

goes_more : {A : Type 0} (d d' d'' : Due) (n : ℕ) (l : Bytes) (r : Read A) → utf8_from d l ≡ utf8_from d' (drop n l) → Goes d' d'' (drop n l) r → Goes d d'' l (more n r)
unfolding more
goes_more d d' d'' n l (got a m) e h = e ∙ h ∙ rw drop-drop
goes_more d d' d'' n l bad e h = tt

goes_bind : {A B : Type 0} (d d' d'' : Due) (k : A → Reader B) (l : Bytes) (r : Read A) → Goes d d' l r → ((a : A) → Leads d' (k a) d'') → Goes d d'' l (behind r l k)
unfolding behind
goes_bind d d' d'' k l (got a n) e f = goes_more d d' d'' n l (k a (drop n l)) e ((f a).at (drop n l))
goes_bind d d' d'' k l bad e f = tt

pub leads_bind : {A B : Type 0} {d d' d'' : Due} (p : Reader A) (k : A → Reader B) → Leads d p d' → ((a : A) → Leads d' (k a) d'') → Leads d (p >>= k) d''
unfolding ◌>>=◌
leads_bind {d} {d'} {d''} p k s f = record { at = λ l. goes_bind d d' d'' k l (p l) (s.at l) f }

pub whole_give : {A : Type 0} (a : A) → Whole (give a)
unfolding give
whole_give a = record { at = λ l. refl }

pub whole_fail : {A : Type 0} → Whole {A = A} fail
unfolding fail
whole_fail = record { at = λ l. tt }

goes_if : {A : Type 0} (d d' : Due) (t : Bool) (l : Bytes) (r o : Read A) → Goes d d' l r → Goes d d' l o → Goes d d' l (if t then r else o)
goes_if d d' true l r o p q = p
goes_if d d' false l r o p q = q

goes_or : {A : Type 0} (d d' : Due) (l : Bytes) (r o : Read A) → Goes d d' l r → Goes d d' l o → Goes d d' l (either_read r o)
unfolding either_read
goes_or d d' l (got a n) o p q = p
goes_or d d' l bad o p q = q

whole_or : {A : Type 0} (p q : Reader A) → Whole p → Whole q → Whole (p or q)
unfolding ◌or◌
whole_or p q s t = record { at = λ l. goes_or start start l (p l) (q l) (s.at l) (t.at l) }

pub whole_next : {A : Type 0} (bytes : Bytes) (p q : Reader A) → Whole p → Whole q → Whole (if_next bytes then p else q)
unfolding if_next◌then◌else◌
whole_next bytes p q s t = record { at = λ l. goes_if start start (among bytes (peek l)) l (p l) (q l) (s.at l) (t.at l) }

whole_if : {A : Type 0} (t : Bool) (p q : Reader A) → Whole p → Whole q → Whole (if t then p else q)
whole_if true p q s t = s
whole_if false p q s t = t

pub whole_counted : {A : Type 0} (p : ℕ → Reader A) → ((n : ℕ) → Whole (p n)) → Whole (counted p)
unfolding counted
whole_counted p f = record { at = λ l. (f (suc (length l))).at l }

goes_mapped : {A B : Type 0} (f : A → B) (d d' : Due) (l : Bytes) (r : Read A) → Goes d d' l r → Goes d d' l (mapped f r)
unfolding mapped
goes_mapped f d d' l (got a n) h = h
goes_mapped f d d' l bad h = tt

whole_giving : {A B : Type 0} (p : Reader A) (f : A → B) → Whole p → Whole (p giving f)
unfolding ◌giving◌
whole_giving p f s = record { at = λ l. goes_mapped f start start l (p l) (s.at l) }

goes_written : {A : Type 0} (d d' : Due) (l : Bytes) (r : Read A) → Goes d d' l r → Goes d d' l (as_written l r)
unfolding as_written
goes_written d d' l (got a n) h = h
goes_written d d' l bad h = tt

whole_verbatim : {A : Type 0} (p : Reader A) → Whole p → Whole (verbatim p)
unfolding verbatim
whole_verbatim p s = record { at = λ l. goes_written start start l (p l) (s.at l) }

-- ---- ASCII bytes

pub first_ascii : (b : ℕ) → b ≤ 0x7F → lead_byte b ≡ start
unfolding lead_byte
first_ascii b h = rw (le-leb b 0x7F h)

step_ascii : (b : ℕ) (l : Bytes) → b ≤ 0x7F → utf8_from start (b ∷ l) ≡ utf8_from start l
unfolding utf8_from next_byte
step_ascii b l h = rw (first_ascii b h)

-- a test that only ASCII bytes pass
abbrev Ascii : (ℕ → Bool) → Type 0
Ascii f = (b : ℕ) → f b ≡ true → b ≤ 0x7F

goes_one : (d d' : Due) (l : Bytes) (t : Bool) → (t ≡ true → utf8_from d l ≡ utf8_from d' (drop 1 l)) → Goes d d' l (if t then got (tt {0}) 1 else bad)
goes_one d d' l true h = h refl
goes_one d d' l false h = tt

whole_one : (f : ℕ → Bool) → Ascii f → Whole (satisfy f)
unfolding satisfy peek
whole_one f h = record { at = go }
  where
    go : (l : Bytes) → Goes start start l (satisfy f l)
    go [] = goes_one start start [] (f 256) (λ e. absurd (omega (arith, h 256 e)))
    go (b ∷ l) = goes_one start start (b ∷ l) (f b) (λ e. step_ascii b l (h b e))

span_whole : (f : ℕ → Bool) → Ascii f → (l : Bytes) → utf8_from start l ≡ utf8_from start (drop (count_while f l) l)
unfolding count_while
span_whole f h [] = refl
span_whole f h (b ∷ l) = go (f b) refl (span_whole f h l)
  where
    go : (t : Bool) → f b ≡ t → utf8_from start l ≡ utf8_from start (drop (count_while f l) l) → utf8_from start (b ∷ l) ≡ utf8_from start (drop (if t then suc (count_while f l) else 0) (b ∷ l))
    go true e k = step_ascii b l (h b e) ∙ k
    go false e k = refl

whole_many : (f : ℕ → Bool) → Ascii f → Whole (many f)
unfolding many
whole_many f h = record { at = λ l. span_whole f h l }

Low : Bytes → Type 0
Low [] = Unit {0}
Low (c ∷ cs) = (leb c 0x7F ≡ true) × Low cs

ascii_among : (cs : Bytes) → Low cs → Ascii (among cs)
unfolding Low
ascii_among [] h b e = let z : ◌≡◌ {A = ℕ} 0 1 = cc in absurd (omega arith)
ascii_among (c ∷ cs) h b e = go (eqb b c) refl e (λ k. ascii_among cs h.1 b k)
  where
    go : (t : Bool) → eqb b c ≡ t → t || among cs b ≡ true → (among cs b ≡ true → b ≤ 0x7F) → b ≤ 0x7F
    go true q k f = omega (arith, eqb-true b c q, leb-true c 0x7F h.0)
    go false q k f = f k

ascii_between : (lo hi : ℕ) → hi ≤ 0x7F → Ascii (between lo hi)
ascii_between lo hi h b e = go (leb lo b) (leb b hi) refl e
  where
    go : (t u : Bool) → leb b hi ≡ u → t && u ≡ true → b ≤ 0x7F
    go true true q k = omega (arith, leb-true b hi q)
    go true false q k = let z : ◌≡◌ {A = ℕ} 0 1 = cc in absurd (omega arith)
    go false u q k = let z : ◌≡◌ {A = ℕ} 0 1 = cc in absurd (omega arith)

pub whole_byte : (c : ℕ) → leb c 0x7F ≡ true → Whole (one_of (c ∷ []))
whole_byte c h = whole_one (among (c ∷ [])) (ascii_among (c ∷ []) (unfold Low in (h, tt)))

whole_word : (w : Bytes) → Low w → Whole (word w)
unfolding word Low
whole_word [] h = whole_give tt
whole_word (b ∷ w) h = leads_bind (one_of (b ∷ [])) (λ u. word w) (whole_byte b h.0) λ u. whole_word w h.1

whole_optional : (p : Reader (Unit {0})) → Whole p → Whole (p or give tt)
whole_optional p s = whole_or p (give tt) s (whole_give tt)

-- ---- numbers, blanks

ascii_digit : Ascii is_digit
unfolding is_digit
ascii_digit = ascii_between 48 57 (omega arith)

ascii_blank : Ascii is_blank
unfolding is_blank
ascii_blank b e = ascii_among (0x20 ∷ 0x09 ∷ 0x0A ∷ 0x0D ∷ []) (unfold Low in (refl, (refl, (refl, (refl, tt))))) b (blank_among (eqb b 0x20) (eqb b 0x09) (eqb b 0x0A) (eqb b 0x0D) e)
  where
    blank_among : (p q r s : Bool) → ((p || q) || r) || s ≡ true → p || (q || (r || (s || false))) ≡ true
    blank_among true q r s e = refl
    blank_among false true r s e = refl
    blank_among false false true s e = refl
    blank_among false false false true e = refl
    blank_among false false false false e = e

pub whole_ws : Whole ws
whole_ws = whole_many is_blank ascii_blank

whole_digits : Whole digits
unfolding digits
whole_digits = leads_bind (satisfy is_digit) _ (whole_one is_digit ascii_digit) λ u. whole_many is_digit ascii_digit

whole_number : Whole read_number
unfolding read_number int frac exp
whole_number =
    leads_bind _ _ (whole_optional _ (whole_byte 45 refl)) λ u.
    leads_bind _ _ (whole_or _ _ (whole_byte 48 refl) (leads_bind (byte_range 0x31 0x39) _ (whole_one (between 0x31 0x39) (ascii_between 0x31 0x39 (omega arith))) λ u. whole_many is_digit ascii_digit)) λ u.
    leads_bind _ _ (whole_optional _ (leads_bind _ _ (whole_byte 46 refl) λ u. whole_digits)) λ u.
    whole_optional _ (leads_bind _ _ (whole_one (among (69 ∷ 101 ∷ [])) (ascii_among (69 ∷ 101 ∷ []) (unfold Low in (refl, (refl, tt))))) λ u.
    leads_bind _ _ (whole_optional _ (whole_one (among (43 ∷ 45 ∷ [])) (ascii_among (43 ∷ 45 ∷ []) (unfold Low in (refl, (refl, tt)))))) λ u. whole_digits)

-- ---- characters of more bytes than one

tail_step : (k lo hi b : ℕ) (l : Bytes) → between lo hi b ≡ true → utf8_from (due (suc k) lo hi) (b ∷ l) ≡ utf8_from (due k 0x80 0xBF) l
unfolding utf8_from next_byte
tail_step k lo hi b l h = rw h

no_range : (lo hi : ℕ) → hi < 256 → between lo hi 256 ≡ false
no_range lo hi h = above lo hi 256 h

not_both : {A : Type 0} → true ≡ false → A
not_both e = let z : ◌≡◌ {A = ℕ} 0 1 = cc in absurd (omega arith)

leads_range : (k lo hi : ℕ) → hi < 256 → Leads (due (suc k) lo hi) (byte_range lo hi) (due k 0x80 0xBF)
unfolding satisfy peek
leads_range k lo hi h = record { at = go }
  where
    go : (l : Bytes) → Goes (due (suc k) lo hi) (due k 0x80 0xBF) l (byte_range lo hi l)
    go [] = goes_one _ _ [] (between lo hi 256) (λ e. not_both (sym e ∙ no_range lo hi h))
    go (b ∷ l) = goes_one _ _ (b ∷ l) (between lo hi b) (λ e. tail_step k lo hi b l e)

pub same_start : (lo hi : ℕ) (l : Bytes) → utf8_from (due 0 lo hi) l ≡ utf8_from start l
unfolding utf8_from next_byte
same_start lo hi [] = refl
same_start lo hi (b ∷ l) = refl

done : (k lo hi : ℕ) → Leads (due 1 lo hi) (byte_range lo hi) (due 0 0x80 0xBF) → Leads (due 1 lo hi) (byte_range lo hi) start
done k lo hi s = record { at = λ l. go l (byte_range lo hi l) (s.at l) }
  where
    go : (l : Bytes) (r : Read (Unit {0})) → Goes (due 1 lo hi) (due 0 0x80 0xBF) l r → Goes (due 1 lo hi) start l r
    go l (got a n) e = e ∙ same_start 0x80 0xBF (drop n l)
    go l bad e = tt

last_tail : Leads (due 1 0x80 0xBF) (byte_range 0x80 0xBF) start
last_tail = done 0 0x80 0xBF (leads_range 0 0x80 0xBF (omega arith))

two_tails : (lo hi : ℕ) → hi < 256 → Leads (due 2 lo hi) (then_tail lo hi) start
two_tails lo hi h = leads_bind (byte_range lo hi) _ (leads_range 1 lo hi h) λ u. last_tail

three_tails : (lo hi : ℕ) → hi < 256 → Leads (due 3 lo hi) (then_tails lo hi) start
three_tails lo hi h = leads_bind (byte_range lo hi) _ (leads_range 2 lo hi h) λ u. two_tails 0x80 0xBF (omega arith)

module _ {A : Type 0} (lo hi : ℕ) (d : Due) (p q : Reader A) (h : hi < 256) (f : (b : ℕ) → lo ≤ b → b ≤ hi → lead_byte b ≡ d) (s : Leads d p start) (t : Whole q) where
  goes_lead : (l : Bytes) (u : Bool) → between lo hi (peek l) ≡ u → Goes start start l (if u then (byte_range lo hi >> p) l else q l)
  unfolding ◌>>=◌ behind satisfy peek
  goes_lead [] true e = not_both (sym e ∙ no_range lo hi h)
  goes_lead (b ∷ l) true e = rw e (goes_more start d start 1 (b ∷ l) (p l) (lead_step b l (both (leb lo b) (leb b hi) refl refl e)) (s.at l))
    where
      both : (t u : Bool) → leb lo b ≡ t → leb b hi ≡ u → t && u ≡ true → lead_byte b ≡ d
      both true true x y z = f b (leb-true lo b x) (leb-true b hi y)
      both true false x y z = not_both (sym z)
      both false u x y z = not_both (sym z)

      lead_step : (b : ℕ) (l : Bytes) → lead_byte b ≡ d → utf8_from start (b ∷ l) ≡ utf8_from d l
      lead_step b l e = unfold utf8_from next_byte in rw e
  goes_lead l false e = t.at l

  whole_lead : Whole (lead lo to hi then p else q)
  unfolding lead◌to◌then◌else◌
  whole_lead = record { at = λ l. goes_lead l (between lo hi (peek l)) refl }

first_c2 : (b : ℕ) → 0xC2 ≤ b → b ≤ 0xDF → lead_byte b ≡ due 1 0x80 0xBF
unfolding lead_byte
first_c2 b h k = rw (lt-leb b 0x7F (omega arith), inside 0xC2 0xDF b h k)

first_e0 : (b : ℕ) → 0xE0 ≤ b → b ≤ 0xE0 → lead_byte b ≡ due 2 0xA0 0xBF
unfolding lead_byte
first_e0 b h k = rw (lt-leb b 0x7F (omega arith), above 0xC2 0xDF b (omega arith), inside 0xE0 0xE0 b h k)

first_e1 : (b : ℕ) → 0xE1 ≤ b → b ≤ 0xEC → lead_byte b ≡ due 2 0x80 0xBF
unfolding lead_byte
first_e1 b h k = rw (lt-leb b 0x7F (omega arith), above 0xC2 0xDF b (omega arith), above 0xE0 0xE0 b (omega arith), inside 0xE1 0xEC b h k)

first_ed : (b : ℕ) → 0xED ≤ b → b ≤ 0xED → lead_byte b ≡ due 2 0x80 0x9F
unfolding lead_byte
first_ed b h k = rw (lt-leb b 0x7F (omega arith), above 0xC2 0xDF b (omega arith), above 0xE0 0xE0 b (omega arith), above 0xE1 0xEC b (omega arith), inside 0xED 0xED b h k)

first_ee : (b : ℕ) → 0xEE ≤ b → b ≤ 0xEF → lead_byte b ≡ due 2 0x80 0xBF
unfolding lead_byte
first_ee b h k = rw (lt-leb b 0x7F (omega arith), above 0xC2 0xDF b (omega arith), above 0xE0 0xE0 b (omega arith), above 0xE1 0xEC b (omega arith), above 0xED 0xED b (omega arith), inside 0xEE 0xEF b h k)

first_f0 : (b : ℕ) → 0xF0 ≤ b → b ≤ 0xF0 → lead_byte b ≡ due 3 0x90 0xBF
unfolding lead_byte
first_f0 b h k = rw (lt-leb b 0x7F (omega arith), above 0xC2 0xDF b (omega arith), above 0xE0 0xE0 b (omega arith), above 0xE1 0xEC b (omega arith), above 0xED 0xED b (omega arith), above 0xEE 0xEF b (omega arith), inside 0xF0 0xF0 b h k)

first_f1 : (b : ℕ) → 0xF1 ≤ b → b ≤ 0xF3 → lead_byte b ≡ due 3 0x80 0xBF
unfolding lead_byte
first_f1 b h k = rw (lt-leb b 0x7F (omega arith), above 0xC2 0xDF b (omega arith), above 0xE0 0xE0 b (omega arith), above 0xE1 0xEC b (omega arith), above 0xED 0xED b (omega arith), above 0xEE 0xEF b (omega arith), above 0xF0 0xF0 b (omega arith), inside 0xF1 0xF3 b h k)

first_f4 : (b : ℕ) → 0xF4 ≤ b → b ≤ 0xF4 → lead_byte b ≡ due 3 0x80 0x8F
unfolding lead_byte
first_f4 b h k = rw (lt-leb b 0x7F (omega arith), above 0xC2 0xDF b (omega arith), above 0xE0 0xE0 b (omega arith), above 0xE1 0xEC b (omega arith), above 0xED 0xED b (omega arith), above 0xEE 0xEF b (omega arith), above 0xF0 0xF0 b (omega arith), above 0xF1 0xF3 b (omega arith), inside 0xF4 0xF4 b h k)

whole_wide : Whole multibyte_char
unfolding multibyte_char
whole_wide =
    whole_lead 0xC2 0xDF (due 1 0x80 0xBF) _ _ (omega arith) first_c2 last_tail
    (whole_lead 0xE0 0xE0 (due 2 0xA0 0xBF) _ _ (omega arith) first_e0 (two_tails 0xA0 0xBF (omega arith))
    (whole_lead 0xE1 0xEC (due 2 0x80 0xBF) _ _ (omega arith) first_e1 (two_tails 0x80 0xBF (omega arith))
    (whole_lead 0xED 0xED (due 2 0x80 0x9F) _ _ (omega arith) first_ed (two_tails 0x80 0x9F (omega arith))
    (whole_lead 0xEE 0xEF (due 2 0x80 0xBF) _ _ (omega arith) first_ee (two_tails 0x80 0xBF (omega arith))
    (whole_lead 0xF0 0xF0 (due 3 0x90 0xBF) _ _ (omega arith) first_f0 (three_tails 0x90 0xBF (omega arith))
    (whole_lead 0xF1 0xF3 (due 3 0x80 0xBF) _ _ (omega arith) first_f1 (three_tails 0x80 0xBF (omega arith))
    (whole_lead 0xF4 0xF4 (due 3 0x80 0x8F) _ _ (omega arith) first_f4 (three_tails 0x80 0x8F (omega arith)) whole_fail)))))))

ascii_lead : {A : Type 0} (lo hi : ℕ) (p q : Reader A) → hi ≤ 0x7F → Whole p → Whole q → Whole (lead lo to hi then p else q)
ascii_lead lo hi p q h s t = whole_lead lo hi start p q (omega arith) (λ b x y. first_ascii b (omega arith)) s t

whole_unescaped : Whole unescaped
unfolding unescaped
whole_unescaped =
    ascii_lead 0x20 0x21 _ _ (omega arith) (whole_give tt) (ascii_lead 0x23 0x5B _ _ (omega arith) (whole_give tt) (ascii_lead 0x5D 0x7F _ _ (omega arith) (whole_give tt) whole_wide))

-- ---- escapes, strings

whole_hex : Whole hex_digit
unfolding hex_digit hex_value one_byte peek
whole_hex = record { at = go }
  where
    hex_one : (l : Bytes) (o : Option ℕ) → ((v : ℕ) → o ≡ Some v → utf8_from start l ≡ utf8_from start (drop 1 l)) → Goes start start l (one_byte o)
    hex_one l (Some v) h = h v refl
    hex_one l None h = tt

    go : (l : Bytes) → Goes start start l (hex_digit l)
    go [] = tt
    go (b ∷ l) = hex_one (b ∷ l) (hex_value b) (λ v e. step_ascii b l (omega (arith, hex_last b v e)))

whole_hex4 : Whole hex4
unfolding hex4
whole_hex4 =
    leads_bind hex_digit _ whole_hex λ a. leads_bind hex_digit _ whole_hex λ b. leads_bind hex_digit _ whole_hex λ c. leads_bind hex_digit _ whole_hex λ d. whole_give (a * 0x1000 + b * 0x100 + c * 0x10 + d)

whole_code : Whole code_point
unfolding code_point low_after
whole_code =
    leads_bind hex4 _ whole_hex4 λ c.
    whole_if (between 0xD800 0xDBFF c) _ _
    (leads_bind (word (92 ∷ 117 ∷ [])) _ (whole_word (92 ∷ 117 ∷ []) (unfold Low in (refl, (refl, tt)))) λ u.
    leads_bind hex4 _ whole_hex4 λ low. whole_if (between 0xDC00 0xDFFF low) _ _ (whole_give (0x10000 + (c - 0xD800) * 0x400 + (low - 0xDC00))) whole_fail)
    (whole_if (between 0xDC00 0xDFFF c) _ _ whole_fail (whole_give c))

whole_escaped : Whole escaped
unfolding escaped
whole_escaped =
    short 0x22 0x22 _ (omega arith) (short 0x5C 0x5C _ (omega arith) (short 0x2F 0x2F _ (omega arith) (short 0x62 0x08 _ (omega arith) (short 0x66 0x0C _ (omega arith)
    (short 0x6E 0x0A _ (omega arith) (short 0x72 0x0D _ (omega arith) (short 0x74 0x09 _ (omega arith) (ascii_lead 0x75 0x75 code_point fail (omega arith) whole_code whole_fail))))))))
  where
    short : (b c : ℕ) (q : Reader ℕ) → b ≤ 0x7F → Whole q → Whole (lead b to b then give c else q)
    short b c q h t = ascii_lead b b (give c) q h (whole_give c) t

pub whole_char : Whole read_char
unfolding read_char
whole_char = whole_next (92 ∷ []) _ _ (leads_bind _ _ (whole_byte 92 refl) λ u. whole_giving escaped encode_utf8 whole_escaped) (whole_verbatim unescaped whole_unescaped)

whole_chars : (n : ℕ) → Whole (read_chars n)
unfolding read_chars
whole_chars zero = whole_fail
whole_chars (suc n) =
    whole_next (34 ∷ []) _ _ (leads_bind _ _ (whole_byte 34 refl) λ u. whole_give [])
    (leads_bind read_char _ whole_char λ c. leads_bind (read_chars n) _ (whole_chars n) λ cs. whole_give (c ++ cs))

pub whole_string : Whole read_string
unfolding read_string
whole_string = leads_bind _ _ (whole_byte 34 refl) λ u. whole_counted read_chars whole_chars

-- ---- values, texts

module _ {A : Type 0} (p : Reader A) (s : Whole p) (c : ℕ) (h : leb c 0x7F ≡ true) where
  pub whole_items : (n : ℕ) → Whole (items p (c ∷ []) n)
  unfolding items
  whole_items zero = whole_fail
  whole_items (suc n) =
      leads_bind p _ s λ a. leads_bind ws _ whole_ws λ u.
      leads_bind _ _ (whole_next (c ∷ []) _ _ (leads_bind _ _ (whole_byte c h) λ u. whole_give [])
      (leads_bind _ _ (whole_byte 44 refl) λ u. leads_bind ws _ whole_ws λ u. whole_items n)) λ others. whole_give (a ∷ others)

  whole_listed : Whole (listed p (c ∷ []))
  unfolding listed
  whole_listed = leads_bind ws _ whole_ws λ u. whole_next (c ∷ []) _ _ (leads_bind _ _ (whole_byte c h) λ u. whole_give []) (whole_counted _ whole_items)

module _ (p : Reader Json) (s : Whole p) where
  pub whole_member : Whole (read_member p)
  unfolding read_member
  whole_member =
      leads_bind read_string _ whole_string λ name. leads_bind ws _ whole_ws λ u. leads_bind _ _ (whole_byte 58 refl) λ u. leads_bind ws _ whole_ws λ u. whole_giving p (λ v. (name, v)) s

  whole_array : Whole (read_array p)
  unfolding read_array
  whole_array = leads_bind _ _ (whole_byte 91 refl) λ u. whole_giving _ (λ vs. array (to_items vs)) (whole_listed p s 93 refl)

  whole_object : Whole (read_object p)
  unfolding read_object
  whole_object = leads_bind _ _ (whole_byte 123 refl) λ u. whole_giving _ (λ ms. object (to_members ms)) (whole_listed (read_member p) whole_member 125 refl)

whole_value_of : (X Y : Reader Json) → Whole X → Whole Y → Whole (value_of X Y)
unfolding value_of
whole_value_of X Y s t =
    whole_next (102 ∷ []) _ _ (whole_giving (word (text "false")) _ (whole_word (text "false") (unfold Low in (refl, (refl, (refl, (refl, (refl, tt))))))))
    (whole_next (110 ∷ []) _ _ (whole_giving (word (text "null")) _ (whole_word (text "null") (unfold Low in (refl, (refl, (refl, (refl, tt)))))))
    (whole_next (116 ∷ []) _ _ (whole_giving (word (text "true")) _ (whole_word (text "true") (unfold Low in (refl, (refl, (refl, (refl, tt)))))))
    (whole_next (123 ∷ []) _ _ t
    (whole_next (91 ∷ []) _ _ s
    (whole_next (34 ∷ []) _ _ (whole_giving read_string string whole_string)
    (whole_giving (verbatim read_number) number (whole_verbatim read_number whole_number)))))))

pub whole_value : (d : ℕ) → Whole (read_value d)
unfolding read_value
whole_value zero = whole_value_of fail fail whole_fail whole_fail
whole_value (suc d) = whole_value_of _ _ (whole_array (read_value d) (whole_value d)) (whole_object (read_value d) (whole_value d))

-- the last thing read is the end
abbrev Ends : {A : Type 0} → Bytes → Read A → Type 0
Ends l (got a n) = utf8_from start (drop n l) ≡ true
Ends l bad = Unit {0}

ends_more : {A : Type 0} (n : ℕ) (l : Bytes) (r : Read A) → Ends (drop n l) r → Ends l (more n r)
unfolding more
ends_more n l (got a m) h = (rw (← drop-drop m n l)) ∙ h
ends_more n l bad h = tt

ends_bind : {A B : Type 0} (p : Reader A) (k : A → Reader B) (l : Bytes) → ((a : A) (m : Bytes) → Ends m (k a m)) → Ends l ((p >>= k) l)
unfolding ◌>>=◌ behind
ends_bind {A} p k l f = go (p l)
  where
    go : (r : Read A) → Ends l (behind r l k)
    go (got a n) = ends_more n l (k a (drop n l)) (f a (drop n l))
    go bad = tt

ends_end : (v : Json) (l : Bytes) → Ends l ((end_of_text >> give v) l)
unfolding ◌>>=◌ behind end_of_text give more utf8_from
ends_end v [] = refl
ends_end v (b ∷ l) = tt

ends_text : (l : Bytes) → Ends l (read_text l)
unfolding read_text
ends_text l = ends_bind ws _ l λ u m. ends_bind (read_value 16) _ m λ v o. ends_bind ws _ o λ u q. ends_end v q

pub whole_end : Whole end_of_text
unfolding end_of_text
whole_end = record { at = λ l. go l (is_empty l) }
  where
    go : (l : Bytes) (t : Bool) → Goes start start l (if t then got (tt {0}) 0 else bad)
    go l true = refl
    go l false = tt

whole_text : Whole read_text
unfolding read_text
whole_text = leads_bind ws _ whole_ws λ u. leads_bind (read_value 16) _ (whole_value 16) λ v. leads_bind ws _ whole_ws λ u. leads_bind end_of_text _ whole_end λ u. whole_give v

-- a text that is read is UTF-8
pub readable_utf8 : (s : Bytes) (v : Json) → read_json s ≡ Some v → is_utf8 s ≡ true
unfolding read_json is_utf8 value_read
readable_utf8 s v e = go (read_text s) (whole_text.at s) (ends_text s) e
  where
    go : (r : Read Json) → Goes start start s r → Ends s r → value_read r ≡ Some v → utf8_from start s ≡ true
    go (got a n) h k e = h ∙ k
    go bad h k e = let z : ◌≡◌ {A = ℕ} 0 1 = cc in absurd (omega arith)
