-- Testing UTF-8 inside strings is the same as testing the whole text first.
use Rattle.std.specs.Prelude.{if◌then◌else◌, Option, None, Some}
use mathlib.Core.Path.{◌≡◌, refl, sym, ap, ◌∙◌}
use mathlib.Core.List.{[], ◌∷◌, ◌++◌}
use mathlib.Core.Bool.{Bool, true, false}
use Prim.Native.Nat.{ℕ, zero, suc, ◌+◌, ◌≤◌, ◌<◌}
use native.Mathlib.Omega.{arith}
use borrow.Author.Tests.{le-leb, lt-leb, leb-true, leb-false, ne_eqb}
use lib.ListN.{length, take, drop, length-drop}
use lib.Dec.{leb}
use Rattle.ascii.specs.Ascii.{Bytes, between, among}
use Rattle.json_text.specs.Reader.{Read, got, bad, Reader, more, behind, ◌>>=◌, ◌>>◌, give, fail, peek, satisfy, one_of, byte_range, if_next◌then◌else◌, lead◌to◌then◌else◌, mapped, ◌giving◌, as_written, verbatim, counted}
use Rattle.json_text.specs.Utf8.{then_tail, then_tails, multibyte_char, Due, due, wrong, lead_byte, next_byte, utf8_from, is_utf8}
use Rattle.json_text.specs.Lexical.{ws, unescaped, read_char, read_chars, read_string}
use Rattle.json_values.specs.Json.{Json, string, array, object, to_items, to_members, items, listed, read_member, read_array, read_object, value_of, read_value, read_text, value_read, read_json}
use Rattle.json_values.specs.RawJson.{raw_unescaped, raw_char, raw_chars, raw_string, raw_member, raw_array, raw_object, raw_value_of, raw_value, raw_text, raw_json}
use Rattle.json_text.proofs.Steps.{inside, under, above, between_tells}
use Rattle.json_text.proofs.Chars.{Ahead, ahead_char}
use Rattle.json_values.proofs.Valid.{start, Goes, Whole, whole_ws, whole_byte, whole_char, whole_string, whole_value, same_start, whole_give, whole_next, leads_bind, whole_items, whole_member, readable_utf8}

-- ---- two readers read the same from UTF-8

pub record Agree {A : Type 0} (p q : Reader A) : Type 0 where
  pub at : (l : Bytes) → utf8_from start l ≡ true → p l ≡ q l

agree_refl : {A : Type 0} (p : Reader A) → Agree p p
agree_refl p = record { at = λ l h. refl }

behind_agrees : {A B : Type 0} (k k' : A → Reader B) (l : Bytes) (r : Read A) → utf8_from start l ≡ true → Goes start start l r → ((a : A) → Agree (k a) (k' a)) → behind r l k ≡ behind r l k'
unfolding behind
behind_agrees k k' l (got a n) h e f = ap (more n) ((f a).at (drop n l) (sym e ∙ h))
behind_agrees k k' l bad h e f = refl

agree_bind : {A B : Type 0} (p q : Reader A) (k k' : A → Reader B) → Whole p → Agree p q → ((a : A) → Agree (k a) (k' a)) → Agree (p >>= k) (q >>= k')
unfolding ◌>>=◌
agree_bind p q k k' w s f = record { at = λ l h. behind_agrees k k' l (p l) h (w.at l) f ∙ ap (λ r. behind r l k') (s.at l h) }

-- after the same reader
agree_then : {A B : Type 0} (p : Reader A) (k k' : A → Reader B) → Whole p → ((a : A) → Agree (k a) (k' a)) → Agree (p >>= k) (p >>= k')
agree_then p k k' w f = agree_bind p p k k' w (agree_refl p) f

agree_next : {A : Type 0} (bytes : Bytes) (p p' q q' : Reader A) → Agree p p' → Agree q q' → Agree (if_next bytes then p else q) (if_next bytes then p' else q')
unfolding if_next◌then◌else◌
agree_next bytes p p' q q' s t = record { at = λ l h. rw (s.at l h, t.at l h) }

agree_giving : {A B : Type 0} (p q : Reader A) (f : A → B) → Agree p q → Agree (p giving f) (q giving f)
unfolding ◌giving◌
agree_giving p q f s = record { at = λ l h. ap (mapped f) (s.at l h) }

agree_counted : {A : Type 0} (p q : ℕ → Reader A) → ((n : ℕ) → Agree (p n) (q n)) → Agree (counted p) (counted q)
unfolding counted
agree_counted p q f = record { at = λ l h. (f (suc (length l))).at l h }

-- ---- what a first byte asks for is read

-- the state d asks for k bytes, and p reads them behind b
record Wide (b : ℕ) (d : Due) (p : Reader (Unit {0})) (l : Bytes) : Type 0 where
  k : ℕ
  lo : ℕ
  hi : ℕ
  low : 0x80 ≤ lo
  high : hi ≤ 0xBF
  is : d ≡ due k lo hi
  reads : p (b ∷ l) ≡ got tt (suc k)

record Tells (b : ℕ) (d : Due) (p : Reader (Unit {0})) : Type 0 where
  at : (l : Bytes) → utf8_from d l ≡ true → Wide b d p l

from_wrong : (l : Bytes) → utf8_from wrong l ≡ false
unfolding utf8_from next_byte
from_wrong [] = refl
from_wrong (b ∷ l) = from_wrong l

never : {A : Type 0} {t : Bool} → t ≡ false → t ≡ true → A
never e f = let z : ◌≡◌ {A = ℕ} 0 1 = cc in absurd (omega arith)

tells_wrong : (b : ℕ) → Tells b wrong fail
tells_wrong b = record { at = λ l h. never (from_wrong l) h }

module _ (lo hi b k lo' hi' : ℕ) (p q : Reader (Unit {0})) (d : Due) (x : 0x80 ≤ lo') (y : hi' ≤ 0xBF)
    (f : (l : Bytes) → utf8_from (due k lo' hi') l ≡ true → p l ≡ got tt k) (t : Tells b d q) where
  lead_here : (l : Bytes) → between lo hi b ≡ true → utf8_from (due k lo' hi') l ≡ true → (lead lo to hi then p else q) (b ∷ l) ≡ got tt (suc k)
  unfolding lead◌to◌then◌else◌ ◌>>=◌ behind satisfy peek more
  lead_here l e h = let z : 1 + k ≡ suc k = omega arith in rw (e, f l h) (ap (got tt) z)

  lead_past : (l : Bytes) → between lo hi b ≡ false → (lead lo to hi then p else q) (b ∷ l) ≡ q (b ∷ l)
  unfolding lead◌to◌then◌else◌ peek
  lead_past l e = rw e

  tells_lead : Tells b (if between lo hi b then due k lo' hi' else d) (lead lo to hi then p else q)
  tells_lead = record { at = λ l h. go l (between lo hi b) refl h }
    where
      go : (l : Bytes) (u : Bool) → between lo hi b ≡ u → utf8_from (if between lo hi b then due k lo' hi' else d) l ≡ true
          → Wide b (if between lo hi b then due k lo' hi' else d) (lead lo to hi then p else q) l
      go l true e h = record { k = k; lo = lo'; hi = hi'; low = x; high = y; is = rw e; reads = lead_here l e (rw e at h) }
      go l false e h =
          let w = t.at l (rw e at h) in
          record { k = w.k; lo = w.lo; hi = w.hi; low = w.low; high = w.high; is = rw e w.is; reads = lead_past l e ∙ w.reads }

-- ---- the bytes behind the first

tail_in : (k lo hi b : ℕ) (l : Bytes) → utf8_from (due (suc k) lo hi) (b ∷ l) ≡ true → (between lo hi b ≡ true) × (utf8_from (due k 0x80 0xBF) l ≡ true)
unfolding utf8_from next_byte
tail_in k lo hi b l h = go (between lo hi b) refl h
  where
    go : (u : Bool) → between lo hi b ≡ u → utf8_from (if u then due k 0x80 0xBF else wrong) l ≡ true → (between lo hi b ≡ true) × (utf8_from (due k 0x80 0xBF) l ≡ true)
    go true e h = (e, h)
    go false e h = never (from_wrong l) h

no_tail : (k lo hi : ℕ) → utf8_from (due (suc k) lo hi) [] ≡ false
unfolding utf8_from
no_tail k lo hi = refl

one_tail : (lo hi : ℕ) (l : Bytes) → utf8_from (due 1 lo hi) l ≡ true → byte_range lo hi l ≡ got tt 1
unfolding satisfy peek
one_tail lo hi [] h = never (no_tail 0 lo hi) h
one_tail lo hi (b ∷ l) h = rw (tail_in 0 lo hi b l h).0

two_tails : (lo hi : ℕ) (l : Bytes) → utf8_from (due 2 lo hi) l ≡ true → then_tail lo hi l ≡ got tt 2
unfolding ◌>>=◌ behind satisfy peek more
two_tails lo hi [] h = never (no_tail 1 lo hi) h
two_tails lo hi (b ∷ l) h = let t = tail_in 1 lo hi b l h in rw (t.0, one_tail 0x80 0xBF l t.1)

three_tails : (lo hi : ℕ) (l : Bytes) → utf8_from (due 3 lo hi) l ≡ true → then_tails lo hi l ≡ got tt 3
unfolding ◌>>=◌ behind satisfy peek more
three_tails lo hi [] h = never (no_tail 2 lo hi) h
three_tails lo hi (b ∷ l) h = let t = tail_in 2 lo hi b l h in rw (t.0, two_tails 0x80 0xBF l t.1)

tells_wide : (b : ℕ) → 0x7F < b → Tells b (lead_byte b) multibyte_char
unfolding lead_byte multibyte_char
tells_wide b h =
    rw (lt-leb b 0x7F h)
    (tells_lead 0xC2 0xDF b 1 0x80 0xBF _ _ _ (omega arith) (omega arith) (one_tail 0x80 0xBF)
    (tells_lead 0xE0 0xE0 b 2 0xA0 0xBF _ _ _ (omega arith) (omega arith) (two_tails 0xA0 0xBF)
    (tells_lead 0xE1 0xEC b 2 0x80 0xBF _ _ _ (omega arith) (omega arith) (two_tails 0x80 0xBF)
    (tells_lead 0xED 0xED b 2 0x80 0x9F _ _ _ (omega arith) (omega arith) (two_tails 0x80 0x9F)
    (tells_lead 0xEE 0xEF b 2 0x80 0xBF _ _ _ (omega arith) (omega arith) (two_tails 0x80 0xBF)
    (tells_lead 0xF0 0xF0 b 3 0x90 0xBF _ _ _ (omega arith) (omega arith) (three_tails 0x90 0xBF)
    (tells_lead 0xF1 0xF3 b 3 0x80 0xBF _ _ _ (omega arith) (omega arith) (three_tails 0x80 0xBF)
    (tells_lead 0xF4 0xF4 b 3 0x80 0x8F _ _ _ (omega arith) (omega arith) (three_tails 0x80 0x8F) (tells_wrong b)))))))))

-- a first byte is at most 0xF4
lead_top : (b : ℕ) → 0xFF < b → lead_byte b ≡ wrong
unfolding lead_byte
lead_top b h =
    rw (
      lt-leb b 0x7F (omega arith),
      above 0xC2 0xDF b (omega arith),
      above 0xE0 0xE0 b (omega arith),
      above 0xE1 0xEC b (omega arith),
      above 0xED 0xED b (omega arith),
      above 0xEE 0xEF b (omega arith),
      above 0xF0 0xF0 b (omega arith),
      above 0xF1 0xF3 b (omega arith),
      above 0xF4 0xF4 b (omega arith),
    )

-- ---- one character more

more_mapped : {A B : Type 0} (f : A → B) (n : ℕ) (r : Read A) → more n (mapped f r) ≡ mapped f (more n r)
unfolding more mapped
more_mapped f n (got a m) = refl
more_mapped f n bad = refl

more_more : {A : Type 0} (i n : ℕ) (r : Read A) → more i (more n r) ≡ more (i + n) r
unfolding more
more_more i n (got a m) = ap (got a) (omega arith)
more_more i n bad = refl

give_last : {A B : Type 0} (f : A → B) (l : Bytes) (r : Read A) → behind r l (λ a. give (f a)) ≡ mapped f r
unfolding behind give mapped more
give_last f l (got a n) = ap (got (f a)) (omega arith)
give_last f l bad = refl

-- the characters behind the first
others : ℕ → Bytes → Reader Bytes
others n c = read_chars n >>= λ cs. give (c ++ cs)

raw_others : ℕ → Bytes → Reader Bytes
raw_others n c = raw_chars n >>= λ cs. give (c ++ cs)

others_are : (n : ℕ) (c l : Bytes) → others n c l ≡ mapped (λ cs. c ++ cs) (read_chars n l)
unfolding others ◌>>=◌
others_are n c l = give_last (λ cs. c ++ cs) l (read_chars n l)

raw_others_are : (n : ℕ) (c l : Bytes) → raw_others n c l ≡ mapped (λ cs. c ++ cs) (raw_chars n l)
unfolding raw_others ◌>>=◌
raw_others_are n c l = give_last (λ cs. c ++ cs) l (raw_chars n l)

-- no quotation mark
chars_on : (n b : ℕ) (l : Bytes) → among (34 ∷ []) b ≡ false → read_chars (suc n) (b ∷ l) ≡ behind (read_char (b ∷ l)) (b ∷ l) (others n)
unfolding read_chars if_next◌then◌else◌ peek others ◌>>=◌
chars_on n b l e = rw e

raw_chars_on : (n b : ℕ) (l : Bytes) → among (34 ∷ []) b ≡ false → raw_chars (suc n) (b ∷ l) ≡ behind (raw_char (b ∷ l)) (b ∷ l) (raw_others n)
unfolding raw_chars if_next◌then◌else◌ peek raw_others ◌>>=◌
raw_chars_on n b l e = rw e

-- a byte that is no ASCII is a character of the raw grammar
not_among : (b c : ℕ) → c < b → among (c ∷ []) b ≡ false
not_among b c h = rw (ne_eqb b c (λ e. absurd (omega arith)))

raw_wide : (b : ℕ) (l : Bytes) → 0x7F < b → b ≤ 0xFF → raw_char (b ∷ l) ≡ got (b ∷ []) 1
unfolding raw_char if_next◌then◌else◌ peek verbatim raw_unescaped lead◌to◌then◌else◌ ◌>>=◌ behind satisfy give more as_written
raw_wide b l h k = rw (not_among b 92 (omega arith), above 0x20 0x21 b (omega arith), above 0x23 0x5B b (omega arith), inside 0x5D 0xFF b (omega arith) k)

raw_step : (n b : ℕ) (l : Bytes) → 0x7F < b → b ≤ 0xFF → raw_chars (suc n) (b ∷ l) ≡ mapped (λ cs. (b ∷ []) ++ cs) (more 1 (raw_chars n l))
unfolding behind
raw_step n b l h k = raw_chars_on n b l (not_among b 34 (omega arith)) ∙ rw (raw_wide b l h k, raw_others_are) (more_mapped (λ cs. (b ∷ []) ++ cs) 1 (raw_chars n l))

-- a character of more bytes than one
wide_char : (b k : ℕ) (l : Bytes) → 0x7F < b → multibyte_char (b ∷ l) ≡ got tt (suc k) → read_char (b ∷ l) ≡ got (b ∷ take k l) (suc k)
unfolding read_char if_next◌then◌else◌ peek verbatim unescaped lead◌to◌then◌else◌ as_written
wide_char b k l h e = rw (not_among b 92 (omega arith), above 0x20 0x21 b (omega arith), above 0x23 0x5B b (omega arith), above 0x5D 0x7F b (omega arith), e)

wide_step : (n b k : ℕ) (l : Bytes) → 0x7F < b → multibyte_char (b ∷ l) ≡ got tt (suc k)
    → read_chars (suc n) (b ∷ l) ≡ mapped (λ cs. (b ∷ take k l) ++ cs) (more (suc k) (read_chars n (drop k l)))
unfolding behind
wide_step n b k l h e = chars_on n b l (not_among b 34 (omega arith)) ∙ rw (wide_char b k l h e, others_are) (more_mapped (λ cs. (b ∷ take k l) ++ cs) (suc k) (read_chars n (drop k l)))

join_tails : (b k : ℕ) (x : Bytes) (r : Read Bytes) → mapped (λ cs. (b ∷ []) ++ cs) (more 1 (mapped (λ cs. x ++ cs) (more k r))) ≡ mapped (λ cs. (b ∷ x) ++ cs) (more (suc k) r)
unfolding mapped more
join_tails b k x (got a m) = ap (got (b ∷ (x ++ a))) (omega arith)
join_tails b k x bad = refl

no_tails : (r : Read Bytes) → r ≡ mapped (λ cs. [] ++ cs) (more 0 r)
unfolding mapped more
no_tails (got a m) = ap (got a) (omega arith)
no_tails bad = refl

-- k bytes of a character are left
tails_agree : (n m k lo hi : ℕ) (l : Bytes) → 0x80 ≤ lo → hi ≤ 0xBF → utf8_from (due k lo hi) l ≡ true → length l < m
    → ((m' : ℕ) (x : Bytes) → length x ≤ length l → length x < m' → utf8_from start x ≡ true → read_chars n x ≡ raw_chars m' x)
    → raw_chars m l ≡ mapped (λ cs. take k l ++ cs) (more k (read_chars n (drop k l)))
tails_agree n m zero lo hi l x y u h ih = sym (ih m l (omega arith) h (sym (same_start lo hi l) ∙ u)) ∙ no_tails (read_chars n l)
tails_agree n m (suc k) lo hi [] x y u h ih = never (no_tail k lo hi) u
tails_agree n zero (suc k) lo hi (b ∷ l) x y u h ih = absurd (omega arith)
tails_agree n (suc m) (suc k) lo hi (b ∷ l) x y u h ih =
    let t = tail_in k lo hi b l u in
    let w = between_tells lo hi b t.0 in
    raw_step m b l (omega (arith, w.0)) (omega (arith, w.1))
    ∙ rw (tails_agree n m k 0x80 0xBF l (omega arith) (omega arith) t.1 (omega arith) (λ m' z p. ih m' z (omega arith))) (join_tails b k (take k l) (read_chars n (drop k l)))

-- ---- ASCII

wide_none : (b : ℕ) (l : Bytes) → b ≤ 0x7F → multibyte_char (b ∷ l) ≡ bad
unfolding multibyte_char lead◌to◌then◌else◌ peek fail
wide_none b l h =
    rw (
      under 0xC2 0xDF b (omega arith),
      under 0xE0 0xE0 b (omega arith),
      under 0xE1 0xEC b (omega arith),
      under 0xED 0xED b (omega arith),
      under 0xEE 0xEF b (omega arith),
      under 0xF0 0xF0 b (omega arith),
      under 0xF1 0xF3 b (omega arith),
      under 0xF4 0xF4 b (omega arith),
    )

plain_same : (b : ℕ) (l : Bytes) → b ≤ 0x7F → unescaped (b ∷ l) ≡ raw_unescaped (b ∷ l)
unfolding unescaped raw_unescaped lead◌to◌then◌else◌ ◌>>=◌ satisfy peek fail
plain_same b l h = rw (wide_none b l h, le-leb b 0x7F h, le-leb b 0xFF (omega arith))

char_same : (b : ℕ) (l : Bytes) → b ≤ 0x7F → read_char (b ∷ l) ≡ raw_char (b ∷ l)
unfolding read_char raw_char if_next◌then◌else◌ verbatim
char_same b l h = rw (plain_same b l h)

-- ---- strings

quote_same : (n m b : ℕ) (l : Bytes) → among (34 ∷ []) b ≡ true → read_chars (suc n) (b ∷ l) ≡ raw_chars (suc m) (b ∷ l)
unfolding read_chars raw_chars if_next◌then◌else◌ peek
quote_same n m b l e = rw e

end_same : (n m : ℕ) → read_chars (suc n) [] ≡ raw_chars (suc m) []
unfolding read_chars raw_chars if_next◌then◌else◌ peek ◌>>=◌ behind read_char raw_char verbatim unescaped raw_unescaped multibyte_char lead◌to◌then◌else◌ fail as_written
end_same n m = refl

first_state : (b : ℕ) (l : Bytes) → utf8_from start (b ∷ l) ≡ utf8_from (lead_byte b) l
unfolding utf8_from next_byte
first_state b l = refl

rest_same : (n m : ℕ) (l : Bytes) (r : Read Bytes) → utf8_from start l ≡ true → Goes start start l r → Ahead r
    → ((x : Bytes) → length x < length l → utf8_from start x ≡ true → read_chars n x ≡ raw_chars m x) → 1 ≤ length l → behind r l (others n) ≡ behind r l (raw_others m)
unfolding behind
rest_same n m l (got c j) u g a ih z =
    ap (more j) (others_are n c (drop j l) ∙ ap (mapped (λ cs. c ++ cs)) (ih (drop j l) (simp length-drop (omega arith)) (sym g ∙ u)) ∙ sym (raw_others_are m c (drop j l)))
rest_same n m l bad u g a ih z = refl

module _ (n m b : ℕ) (l : Bytes) (j : length l < m) (u : utf8_from start (b ∷ l) ≡ true)
    (ih : (m' : ℕ) (x : Bytes) → length x ≤ length l → length x < m' → utf8_from start x ≡ true → read_chars n x ≡ raw_chars m' x) where
  wide_agrees : 0x7F < b → b ≤ 0xFF → read_chars (suc n) (b ∷ l) ≡ raw_chars (suc m) (b ∷ l)
  wide_agrees x y =
      let v : utf8_from (lead_byte b) l ≡ true = sym (first_state b l) ∙ u in
      let w = (tells_wide b x).at l v in
      let t : raw_chars m l ≡ mapped (λ cs. take w.k l ++ cs) (more w.k (read_chars n (drop w.k l))) =
      tails_agree n m w.k w.lo w.hi l w.low w.high (rw w.is at v) j ih in
      wide_step n b w.k l x w.reads ∙ sym (raw_step m b l x y ∙ rw t (join_tails b w.k (take w.k l) (read_chars n (drop w.k l))))

  step_agrees : read_chars (suc n) (b ∷ l) ≡ raw_chars (suc m) (b ∷ l)
  step_agrees = go (among (34 ∷ []) b) (leb b 0x7F) (leb b 0xFF) refl refl refl
    where
      go : (q a f : Bool) → among (34 ∷ []) b ≡ q → leb b 0x7F ≡ a → leb b 0xFF ≡ f → read_chars (suc n) (b ∷ l) ≡ raw_chars (suc m) (b ∷ l)
      go true a f x y z = quote_same n m b l x
      go false true f x y z =
          chars_on n b l x
          ∙ rest_same n m (b ∷ l) (read_char (b ∷ l)) u (whole_char.at (b ∷ l)) (ahead_char (b ∷ l)) (λ o p q. ih m o (omega arith) (omega arith) q) (omega arith)
          ∙ ap (λ r. behind r (b ∷ l) (raw_others m)) (char_same b l (leb-true b 0x7F y))
          ∙ sym (raw_chars_on m b l x)
      go false false true x y z = wide_agrees (leb-false b 0x7F y) (leb-true b 0xFF z)
      go false false false x y z = never (ap (λ d. utf8_from d l) (lead_top b (leb-false b 0xFF z)) ∙ from_wrong l) (sym (first_state b l) ∙ u)

chars_agree : (k n m : ℕ) (l : Bytes) → length l < k → length l < n → length l < m → utf8_from start l ≡ true → read_chars n l ≡ raw_chars m l
chars_agree zero n m l h i j u = absurd (omega arith)
chars_agree (suc k) zero m l h i j u = absurd (omega arith)
chars_agree (suc k) (suc n) zero l h i j u = absurd (omega arith)
chars_agree (suc k) (suc n) (suc m) [] h i j u = end_same n m
chars_agree (suc k) (suc n) (suc m) (b ∷ l) h i j u = step_agrees n m b l (omega arith) u (λ m' x p q v. chars_agree k n m' x (omega arith) (omega arith) q v)

agree_string : Agree read_string raw_string
unfolding read_string raw_string
agree_string = agree_then _ _ _ (whole_byte 34 refl) λ u. record { at = λ l h. go l h }
  where
    go : (l : Bytes) → utf8_from start l ≡ true → counted read_chars l ≡ counted raw_chars l
    go l h = unfold counted in chars_agree (suc (length l)) (suc (length l)) (suc (length l)) l (omega arith) (omega arith) (omega arith) h

-- ---- values, texts

module _ {A : Type 0} (p q : Reader A) (w : Whole p) (s : Agree p q) (c : ℕ) (h : leb c 0x7F ≡ true) where
  agree_items : (n : ℕ) → Agree (items p (c ∷ []) n) (items q (c ∷ []) n)
  unfolding items
  agree_items zero = agree_refl fail
  agree_items (suc n) =
      agree_bind p q _ _ w s λ a. agree_then ws _ _ whole_ws λ u.
      agree_bind _ _ _ _ (whole_behind n)
      (agree_next (c ∷ []) _ _ _ _ (agree_refl _) (agree_then _ _ _ (whole_byte 44 refl) λ u. agree_then ws _ _ whole_ws λ u. agree_items n)) λ others. agree_refl _
    where
      whole_behind : (n : ℕ) → Whole (if_next (c ∷ []) then one_of (c ∷ []) >> give [] else one_of (44 ∷ []) >> ws >> items p (c ∷ []) n)
      whole_behind n =
          whole_next (c ∷ []) _ _ (leads_bind _ _ (whole_byte c h) λ u. whole_give [])
          (leads_bind _ _ (whole_byte 44 refl) λ u. leads_bind ws _ whole_ws λ u. whole_items p w c h n)

  agree_listed : Agree (listed p (c ∷ [])) (listed q (c ∷ []))
  unfolding listed
  agree_listed = agree_then ws _ _ whole_ws λ u. agree_next (c ∷ []) _ _ _ _ (agree_refl _) (agree_counted _ _ agree_items)

module _ (p q : Reader Json) (w : Whole p) (s : Agree p q) where
  agree_member : Agree (read_member p) (raw_member q)
  unfolding read_member raw_member
  agree_member =
      agree_bind read_string raw_string _ _ whole_string agree_string λ name. agree_then ws _ _ whole_ws λ u. agree_then _ _ _ (whole_byte 58 refl) λ u. agree_then ws _ _ whole_ws λ u.
      agree_giving p q (λ v. (name, v)) s

  agree_array : Agree (read_array p) (raw_array q)
  unfolding read_array raw_array
  agree_array = agree_then _ _ _ (whole_byte 91 refl) λ u. agree_giving _ _ (λ vs. array (to_items vs)) (agree_listed p q w s 93 refl)

  agree_object : Agree (read_object p) (raw_object q)
  unfolding read_object raw_object
  agree_object = agree_then _ _ _ (whole_byte 123 refl) λ u. agree_giving _ _ (λ ms. object (to_members ms)) (agree_listed (read_member p) (raw_member q) (whole_member p w) agree_member 125 refl)

agree_value_of : (X Y X' Y' : Reader Json) → Agree X X' → Agree Y Y' → Agree (value_of X Y) (raw_value_of X' Y')
unfolding value_of raw_value_of
agree_value_of X Y X' Y' s t =
    agree_next _ _ _ _ _ (agree_refl _) (agree_next _ _ _ _ _ (agree_refl _) (agree_next _ _ _ _ _ (agree_refl _) (agree_next _ _ _ _ _ t (agree_next _ _ _ _ _ s
    (agree_next _ _ _ _ _ (agree_giving read_string raw_string string agree_string) (agree_refl _))))))

agree_value : (d : ℕ) → Agree (read_value d) (raw_value d)
unfolding read_value raw_value
agree_value zero = agree_value_of fail fail fail fail (agree_refl fail) (agree_refl fail)
agree_value (suc d) =
    agree_value_of _ _ _ _ (agree_array (read_value d) (raw_value d) (whole_value d) (agree_value d)) (agree_object (read_value d) (raw_value d) (whole_value d) (agree_value d))

agree_text : Agree read_text raw_text
unfolding read_text raw_text
agree_text = agree_then ws _ _ whole_ws λ u. agree_bind (read_value 16) (raw_value 16) _ _ (whole_value 16) (agree_value 16) λ v. agree_refl _

-- where the text is UTF-8, the two grammars read the same
pub utf8_same : (s : Bytes) → is_utf8 s ≡ true → read_json s ≡ raw_json s
unfolding read_json raw_json is_utf8
utf8_same s h = ap value_read (agree_text.at s h)

-- `valid UTF-8 in the RFC 8259 grammar`: the whole text is tested, and then read
pub utf8_first : (s : Bytes) → read_json s ≡ (if is_utf8 s then raw_json s else None)
utf8_first s = go (is_utf8 s) refl (read_json s) refl
  where
    go : (t : Bool) → is_utf8 s ≡ t → (r : Option Json) → read_json s ≡ r → r ≡ (if t then raw_json s else None)
    go true e r f = sym f ∙ utf8_same s e
    go false e None f = refl
    go false e (Some v) f = never e (readable_utf8 s v f)
