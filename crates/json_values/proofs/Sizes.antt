-- A text is at least as long as what is read from it: the length bound behind the re-reading theorem.
use Rattle.std.specs.Prelude.{if◌then◌else◌, Option, None, Some}
use mathlib.Core.Path.{◌≡◌, refl, ap}
use mathlib.Core.List.{List, [], ◌∷◌, ◌++◌}
use mathlib.Core.Bool.{Bool, true, false}
use Prim.Native.Nat.{ℕ, zero, suc, ◌+◌, ◌≤◌, ◌<◌, max, suc-le-suc}
use native.Mathlib.Omega.{arith}
use lib.ListN.{length, drop, length-append, length-drop, length-take}
use lib.Dec.{eqb, ltb}
use Rattle.ascii.specs.Ascii.{Bytes, is_empty, between, among, is_digit, text}
use Rattle.json_text.specs.Reader.{Read, got, bad, Reader, more, behind, ◌>>=◌, ◌>>◌, give, fail, end_of_text, peek, satisfy, one_byte, one_of, byte_range, count_while, many, word, if_next◌then◌else◌, lead◌to◌then◌else◌, either_read, ◌or◌, mapped, ◌giving◌, as_written, verbatim, counted}
use Rattle.json_text.specs.code.Places.{read_at}
use Rattle.json_text.specs.Utf8.{then_tail, then_tails, multibyte_char, encode_utf8}
use Rattle.json_text.specs.Lexical.{is_blank, ws, digits, int, frac, exp, read_number, unescaped, hex_value, hex_digit, hex4, low_after, code_point, escaped, read_char, read_chars, read_string}
use Rattle.json_values.specs.Json.{Json, literal, number, string, array, object, Jsons, no_item, item, Members, no_member, member, to_items, to_members, items, listed, read_member, read_array, read_object, value_of, read_value, read_text, value_read, read_json}

-- ---- the least length of a text that reads to a tree

unfoldable mutual
  pub size : Json → ℕ
  size literal = 4
  size (number x) = max 1 (length x)
  size (string x) = length x + 2
  size (array vs) = 1 + max 1 (items_size vs)
  size (object ms) = 1 + max 1 (members_size ms)

  -- each item with the byte behind it
  pub items_size : Jsons → ℕ
  items_size no_item = 0
  items_size (item v vs) = size v + 1 + items_size vs

  -- each member with the byte behind it: two quotes, a colon
  pub members_size : Members → ℕ
  members_size no_member = 0
  members_size (member n v ms) = length n + 3 + size v + 1 + members_size ms

-- ---- what p reads weighs at most m more than the bytes that it takes up, and those are there

abbrev Within : {A : Type 0} → (A → ℕ) → ℕ → Bytes → Read A → Type 0
Within w m l (got a n) = (w a ≤ m + n) × (n ≤ length l)
Within w m l bad = Unit {0}

pub record Sized {A : Type 0} (w : A → ℕ) (m : ℕ) (p : Reader A) : Type 0 where
  pub at : (l : Bytes) → Within w m l (p l)

within_more : {A : Type 0} (w : A → ℕ) (m n : ℕ) (l : Bytes) (r : Read A) → n ≤ length l → Within w (m + n) (drop n l) r → Within w m l (more n r)
unfolding more
within_more w m n l (got a k) h q = (omega arith, omega (arith, length-drop n l))
within_more w m n l bad h q = tt

module _ {A B : Type 0} (w : A → ℕ) {w' : B → ℕ} where
  bind_within : (m : ℕ) (l : Bytes) (k : A → Reader B) (r : Read A) → Within w m l r → ((a : A) (x : ℕ) → w a ≤ x → Sized w' x (k a)) → Within w' m l (behind r l k)
  unfolding behind
  bind_within m l k (got a n) h f = within_more w' m n l (k a (drop n l)) h.1 ((f a (m + n) h.0).at (drop n l))
  bind_within m l k bad h f = tt

  sized_bind : {m : ℕ} (p : Reader A) (k : A → Reader B) → Sized w m p → ((a : A) (x : ℕ) → w a ≤ x → Sized w' x (k a)) → Sized w' m (p >>= k)
  unfolding ◌>>=◌
  sized_bind {m} p k s f = record { at = λ l. bind_within m l k (p l) (s.at l) f }

module _ {A : Type 0} (w : A → ℕ) (m : ℕ) where
  sized_give : (a : A) → w a ≤ m → Sized w m (give a)
  unfolding give
  sized_give a h = record { at = λ l. (omega arith, omega arith) }

  sized_fail : Sized w m fail
  unfolding fail
  sized_fail = record { at = λ l. tt }

  within_if : (t : Bool) (l : Bytes) (r o : Read A) → Within w m l r → Within w m l o → Within w m l (if t then r else o)
  within_if true l r o p q = p
  within_if false l r o p q = q

  within_or : (l : Bytes) (r o : Read A) → Within w m l r → Within w m l o → Within w m l (either_read r o)
  unfolding either_read
  within_or l (got a n) o p q = p
  within_or l bad o p q = q

  sized_or : (p q : Reader A) → Sized w m p → Sized w m q → Sized w m (p or q)
  unfolding ◌or◌
  sized_or p q s t = record { at = λ l. within_or l (p l) (q l) (s.at l) (t.at l) }

  sized_next : (bytes : Bytes) (p q : Reader A) → Sized w m p → Sized w m q → Sized w m (if_next bytes then p else q)
  unfolding if_next◌then◌else◌
  sized_next bytes p q s t = record { at = λ l. within_if (among bytes (peek l)) l (p l) (q l) (s.at l) (t.at l) }

  sized_counted : (p : ℕ → Reader A) → ((n : ℕ) → Sized w m (p n)) → Sized w m (counted p)
  unfolding counted
  sized_counted p f = record { at = λ l. (f (suc (length l))).at l }

module _ (m : ℕ) (f : ℕ → Bool) where
  sized_one : f 256 ≡ false → Sized (λ u. m + 1) m (satisfy f)
  unfolding satisfy peek
  sized_one e = record { at = go }
    where
      if_one : (l : Bytes) (t : Bool) → 1 ≤ length l → Within (λ u. m + 1) m l (if t then got (tt {0}) 1 else bad)
      if_one l true h = (omega arith, h)
      if_one l false h = tt

      if_none : (t : Bool) → t ≡ false → Within (λ u. m + 1) m [] (if t then got (tt {0}) 1 else bad)
      if_none true q = let z : ◌≡◌ {A = ℕ} 0 1 = cc in absurd (omega arith)
      if_none false q = tt

      go : (l : Bytes) → Within (λ u. m + 1) m l (if f (peek l) then got (tt {0}) 1 else bad)
      go [] = if_none (f 256) e
      go (b ∷ l) = if_one (b ∷ l) (f b) (omega arith)

  span_within : (l : Bytes) → count_while f l ≤ length l
  unfolding count_while
  span_within [] = omega arith
  span_within (b ∷ l) = go (f b) (span_within l)
    where
      go : (t : Bool) → count_while f l ≤ length l → (if t then suc (count_while f l) else 0) ≤ suc (length l)
      go true h = suc-le-suc h
      go false h = omega arith

  sized_many : Sized (λ u. m) m (many f)
  unfolding many
  sized_many = record { at = λ l. (omega arith, span_within l) }

module _ {A : Type 0} (w : A → ℕ) (m : ℕ) where
  sized_lead : (lo hi : ℕ) (p q : Reader A) → between lo hi 256 ≡ false → Sized w (m + 1) p → Sized w m q → Sized w m (lead lo to hi then p else q)
  unfolding lead◌to◌then◌else◌
  sized_lead lo hi p q e s t =
      let b : Sized w m (byte_range lo hi >> p) = sized_bind (λ u. m + 1) (byte_range lo hi) (λ u. p) (sized_one m (between lo hi) e) (λ u x h. record { at = λ l. weaker x h l (p l) (s.at l) }) in
      record { at = λ l. within_if w m (between lo hi (peek l)) l ((byte_range lo hi >> p) l) (q l) (b.at l) (t.at l) }
    where
      weaker : (x : ℕ) → m + 1 ≤ x → (l : Bytes) (r : Read A) → Within w (m + 1) l r → Within w x l r
      weaker x h l (got a n) q = (omega arith, q.1)
      weaker x h l bad q = tt

-- the weight changed, and the bytes before
module _ {A : Type 0} (w w' : A → ℕ) (m m' : ℕ) (f : (a : A) (x : ℕ) → w a ≤ m + x → w' a ≤ m' + x) where
  within_as : (l : Bytes) (r : Read A) → Within w m l r → Within w' m' l r
  within_as l (got a n) q = (f a n q.0, q.1)
  within_as l bad q = tt

  sized_as : (p : Reader A) → Sized w m p → Sized w' m' p
  sized_as p s = record { at = λ l. within_as l (p l) (s.at l) }

module _ {A B : Type 0} (w : B → ℕ) (m : ℕ) (f : A → B) where
  within_mapped : (l : Bytes) (r : Read A) → Within (λ a. w (f a)) m l r → Within w m l (mapped f r)
  unfolding mapped
  within_mapped l (got a n) q = q
  within_mapped l bad q = tt

  sized_giving : (p : Reader A) → Sized (λ a. w (f a)) m p → Sized w m (p giving f)
  unfolding ◌giving◌
  sized_giving p s = record { at = λ l. within_mapped l (p l) (s.at l) }

module _ {A : Type 0} (c : ℕ) where
  within_written : (l : Bytes) (r : Read A) → Within (λ a. c) 0 l r → Within (λ x. max c (length x)) 0 l (as_written l r)
  unfolding as_written
  within_written l (got a n) q = (simp length-take (omega arith), q.1)
  within_written l bad q = tt

  sized_verbatim : (p : Reader A) → Sized (λ a. c) 0 p → Sized (λ x. max c (length x)) 0 (verbatim p)
  unfolding verbatim
  sized_verbatim p s = record { at = λ l. within_written l (p l) (s.at l) }

-- ---- words, numbers

Small : Bytes → Type 0
Small [] = Unit {0}
Small (b ∷ w) = (eqb 256 b ≡ false) × Small w

sized_word : (m : ℕ) (v : Bytes) → Small v → Sized (λ u. m + length v) m (word v)
unfolding word Small
sized_word m [] h = sized_give (λ u. m + 0) m tt (omega arith)
sized_word m (b ∷ v) h =
    sized_bind (λ u. m + 1) (one_of (b ∷ [])) (λ u. word v) (sized_one m (among (b ∷ [])) (simp h.0))
    λ u x k. sized_as (λ u. x + length v) (λ u. m + suc (length v)) x x (λ a y q. omega arith) (word v) (sized_word x v h.1)

-- no lighter after it than before
abbrev Keeps : Reader (Unit {0}) → Type 0
Keeps p = (m : ℕ) → Sized (λ u. m) m p

one_keeps : (f : ℕ → Bool) → f 256 ≡ false → Keeps (satisfy f)
one_keeps f e m = sized_as (λ u. m + 1) (λ u. m) m m (λ a x q. omega arith) (satisfy f) (sized_one m f e)

digits_size : (m : ℕ) → Sized (λ u. m + 1) m digits
unfolding digits is_digit
digits_size m =
    sized_bind (λ u. m + 1) (satisfy is_digit) (λ u. many is_digit) (sized_one m is_digit refl)
    λ u x h. sized_as (λ u. x) (λ u. m + 1) x x (λ a y q. omega arith) (many is_digit) (sized_many x is_digit)

int_size : (m : ℕ) → Sized (λ u. m + 1) m int
unfolding int
int_size m =
    sized_or (λ u. m + 1) m _ _ (sized_one m (among (48 ∷ [])) refl)
    (sized_bind (λ u. m + 1) (byte_range 0x31 0x39) (λ u. many is_digit) (sized_one m (between 0x31 0x39) refl)
    λ u x h. sized_as (λ u. x) (λ u. m + 1) x x (λ a y q. omega arith) (many is_digit) (sized_many x is_digit))

optional_keeps : (p : Reader (Unit {0})) → Keeps p → Keeps (p or give tt)
optional_keeps p s m = sized_or (λ u. m) m p (give tt) (s m) (sized_give (λ u. m) m tt (omega arith))

then_keeps : (p q : Reader (Unit {0})) → Keeps p → Keeps q → Keeps (p >> q)
then_keeps p q s t m = sized_bind (λ u. m) p (λ u. q) (s m) λ u x h. sized_as (λ u. x) (λ u. m) x x (λ a y k. omega arith) q (t x)

digits_keeps : Keeps digits
digits_keeps m = sized_as (λ u. m + 1) (λ u. m) m m (λ a x q. omega arith) digits (digits_size m)

frac_keeps : Keeps frac
unfolding frac
frac_keeps = then_keeps (one_of (46 ∷ [])) digits (one_keeps (among (46 ∷ [])) refl) digits_keeps

exp_keeps : Keeps exp
unfolding exp
exp_keeps =
    then_keeps (one_of (69 ∷ 101 ∷ [])) _ (one_keeps (among (69 ∷ 101 ∷ [])) refl)
    (then_keeps _ digits (optional_keeps (one_of (43 ∷ 45 ∷ [])) (one_keeps (among (43 ∷ 45 ∷ [])) refl)) digits_keeps)

number_size : Sized (λ u. 1) 0 read_number
unfolding read_number
number_size =
    sized_bind (λ u. 0) (one_of (45 ∷ []) or give tt) _ (optional_keeps (one_of (45 ∷ [])) (one_keeps (among (45 ∷ [])) refl) 0)
    λ u x h. sized_bind (λ u. x + 1) int _ (int_size x)
    λ u y k. sized_as (λ u. y) (λ u. 1) y y (λ a z q. omega arith) _ (then_keeps _ _ (optional_keeps frac frac_keeps) (optional_keeps exp exp_keeps) y)

-- ---- strings

wide_keeps : Keeps multibyte_char
unfolding multibyte_char
wide_keeps m =
    step 0xC2 0xDF _ _ refl tail' (step 0xE0 0xE0 _ _ refl (two 0xA0 0xBF refl) (step 0xE1 0xEC _ _ refl (two 0x80 0xBF refl) (step 0xED 0xED _ _ refl (two 0x80 0x9F refl)
    (step 0xEE 0xEF _ _ refl (two 0x80 0xBF refl) (step 0xF0 0xF0 _ _ refl (three 0x90 0xBF refl) (step 0xF1 0xF3 _ _ refl (three 0x80 0xBF refl) (step 0xF4 0xF4 _ _ refl (three 0x80 0x8F refl)
    (sized_fail (λ u. m) m))))))))
  where
    step : (lo hi : ℕ) (p q : Reader (Unit {0})) → between lo hi 256 ≡ false → Keeps p → Sized (λ u. m) m q → Sized (λ u. m) m (lead lo to hi then p else q)
    step lo hi p q e s t = sized_lead (λ u. m) m lo hi p q e (sized_as (λ u. m + 1) (λ u. m) (m + 1) (m + 1) (λ a x h. omega arith) p (s (m + 1))) t

    tail' : Keeps (byte_range 0x80 0xBF)
    tail' = one_keeps (between 0x80 0xBF) refl

    two : (lo hi : ℕ) → between lo hi 256 ≡ false → Keeps (then_tail lo hi)
    two lo hi e = then_keeps (byte_range lo hi) (byte_range 0x80 0xBF) (one_keeps (between lo hi) e) tail'

    three : (lo hi : ℕ) → between lo hi 256 ≡ false → Keeps (then_tails lo hi)
    three lo hi e = then_keeps (byte_range lo hi) _ (one_keeps (between lo hi) e) (then_keeps (byte_range 0x80 0xBF) (byte_range 0x80 0xBF) tail' tail')

unescaped_keeps : Keeps unescaped
unfolding unescaped
unescaped_keeps m = step 0x20 0x21 _ refl (step 0x23 0x5B _ refl (step 0x5D 0x7F _ refl (wide_keeps m)))
  where
    step : (lo hi : ℕ) (q : Reader (Unit {0})) → between lo hi 256 ≡ false → Sized (λ u. m) m q → Sized (λ u. m) m (lead lo to hi then give tt else q)
    step lo hi q e t = sized_lead (λ u. m) m lo hi (give tt) q e (sized_give (λ u. m) (m + 1) tt (omega arith)) t

hex_size : (m : ℕ) → Sized (λ v. m + 1) m hex_digit
unfolding hex_digit peek hex_value one_byte
hex_size m = record { at = go }
  where
    of_hex : (l : Bytes) (o : Option ℕ) → 1 ≤ length l → Within (λ v. m + 1) m l (one_byte o)
    of_hex l (Some v) h = (omega arith, h)
    of_hex l None h = tt

    go : (l : Bytes) → Within (λ v. m + 1) m l (hex_digit l)
    go [] = tt
    go (b ∷ l) = of_hex (b ∷ l) (hex_value b) (omega arith)

hex4_size : (m : ℕ) → Sized (λ v. m + 4) m hex4
unfolding hex4
hex4_size m =
    sized_bind (λ v. m + 1) hex_digit _ (hex_size m) λ a x h. sized_bind (λ v. x + 1) hex_digit _ (hex_size x) λ b y k.
    sized_bind (λ v. y + 1) hex_digit _ (hex_size y) λ c z l. sized_bind (λ v. z + 1) hex_digit _ (hex_size z) λ d v n. sized_give (λ v. m + 4) v _ (omega arith)

-- four bytes at least
sized_if : {A : Type 0} (w : A → ℕ) (m : ℕ) (t : Bool) (p q : Reader A) → Sized w m p → Sized w m q → Sized w m (if t then p else q)
sized_if w m true p q s t = s
sized_if w m false p q s t = t

code_size : (m : ℕ) → Sized (λ c. m + 4) m code_point
unfolding code_point low_after
code_size m =
    sized_bind (λ c. m + 4) hex4 _ (hex4_size m) λ c x h.
    sized_if (λ c. m + 4) x (between 0xD800 0xDBFF c) _ _
    (sized_bind (λ u. x + 2) (word (92 ∷ 117 ∷ [])) _ (sized_word x (92 ∷ 117 ∷ []) (unfold Small in (refl, (refl, tt)))) λ u y k.
    sized_bind (λ v. y + 4) hex4 _ (hex4_size y) λ low z l.
    sized_if (λ c. m + 4) z (between 0xDC00 0xDFFF low) _ _ (sized_give (λ c. m + 4) z _ (omega arith)) (sized_fail (λ c. m + 4) z))
    (sized_if (λ c. m + 4) x (between 0xDC00 0xDFFF c) _ _ (sized_fail (λ c. m + 4) x) (sized_give (λ c. m + 4) x c h))

encode_length : (c : ℕ) → length (encode_utf8 c) ≤ 4
unfolding encode_utf8
encode_length c = go (ltb c 0x80) (ltb c 0x800) (ltb c 0x10000) _ _ _ _ (omega arith) (omega arith) (omega arith) (omega arith)
  where
    go : (t u v : Bool) (a b d e : Bytes) → length a ≤ 4 → length b ≤ 4 → length d ≤ 4 → length e ≤ 4
        → length (if t then a else if u then b else if v then d else e) ≤ 4
    go true u v a b d e p q r s = p
    go false true v a b d e p q r s = q
    go false false true a b d e p q r s = r
    go false false false a b d e p q r s = s

escaped_size : (m : ℕ) → Sized (λ c. m + length (encode_utf8 c)) m escaped
unfolding escaped encode_utf8
escaped_size m =
    short 0x22 0x22 _ refl (omega arith) (short 0x5C 0x5C _ refl (omega arith) (short 0x2F 0x2F _ refl (omega arith) (short 0x62 0x08 _ refl (omega arith)
    (short 0x66 0x0C _ refl (omega arith) (short 0x6E 0x0A _ refl (omega arith) (short 0x72 0x0D _ refl (omega arith) (short 0x74 0x09 _ refl (omega arith)
    (sized_lead W m 0x75 0x75 code_point fail refl (sized_as (λ c. m + 1 + 4) W (m + 1) (m + 1) (λ c x h. omega (arith, encode_length c)) code_point (code_size (m + 1))) (sized_fail W m)))))))))
  where
    W : ℕ → ℕ
    W = λ c. m + length (encode_utf8 c)

    short : (b c : ℕ) (q : Reader ℕ) → between b b 256 ≡ false → length (encode_utf8 c) ≤ 1 → Sized W m q → Sized W m (lead b to b then give c else q)
    short b c q e h t = sized_lead W m b b (give c) q e (sized_give W (m + 1) c (omega arith)) t

char_size : (m : ℕ) → Sized (λ c. m + length c) m read_char
unfolding read_char
char_size m =
    sized_next (λ c. m + length c) m (92 ∷ []) _ _
    (sized_bind (λ u. m + 1) (one_of (92 ∷ [])) _ (sized_one m (among (92 ∷ [])) refl) λ u x h.
    sized_giving (λ c. m + length c) x encode_utf8 escaped (sized_as (λ c. x + length (encode_utf8 c)) (λ c. m + length (encode_utf8 c)) x x (λ c y q. omega arith) escaped (escaped_size x)))
    (sized_as (λ c. max 0 (length c)) (λ c. m + length c) 0 m (λ c x q. omega arith) (verbatim unescaped) (sized_verbatim 0 unescaped (unescaped_keeps 0)))

-- with the closing quote
chars_size : (m n : ℕ) → Sized (λ c. m + length c + 1) m (read_chars n)
unfolding read_chars
chars_size m zero = sized_fail (λ c. m + length c + 1) m
chars_size m (suc n) =
    sized_next (λ c. m + length c + 1) m (34 ∷ []) _ _
    (sized_bind (λ u. m + 1) (one_of (34 ∷ [])) _ (sized_one m (among (34 ∷ [])) refl) λ u x h. sized_give (λ c. m + length c + 1) x [] (omega arith))
    (sized_bind (λ c. m + length c) read_char _ (char_size m) λ c x h.
    sized_bind (λ cs. x + length cs + 1) (read_chars n) _ (chars_size x n) λ cs y k.
    sized_give (λ c. m + length c + 1) y (c ++ cs) (omega (arith, length-append c cs)))

string_size : (m : ℕ) → Sized (λ c. m + length c + 2) m read_string
unfolding read_string
string_size m =
    sized_bind (λ u. m + 1) (one_of (34 ∷ [])) _ (sized_one m (among (34 ∷ [])) refl) λ u x h.
    sized_as (λ c. x + length c + 1) (λ c. m + length c + 2) x x (λ c y q. omega arith) (counted read_chars) (sized_counted (λ c. x + length c + 1) x read_chars (chars_size x))

-- ---- values

sum : {A : Type 0} → (A → ℕ) → List A → ℕ
sum w [] = 0
sum w (a ∷ as') = w a + 1 + sum w as'

-- `p` reads what weighs w, whatever stands before
abbrev Weighs : {A : Type 0} → (A → ℕ) → Reader A → Type 0
Weighs w p = (m : ℕ) → Sized (λ a. m + w a) m p

ws_keeps : Keeps ws
ws_keeps m = sized_many m is_blank

-- `]` or `}` and `,` are there
module _ {A : Type 0} (w : A → ℕ) (p : Reader A) (s : Weighs w p) (c : ℕ) (e : eqb 256 c ≡ false) where
  abbrev Listed : ℕ → List A → ℕ
  Listed m as' = m + max 1 (sum w as')

  close_size : (m : ℕ) → Sized (λ as'. m + (sum w as' + 1)) m (one_of (c ∷ []) >> give [])
  unfolding sum
  close_size m = sized_bind (λ u. m + 1) (one_of (c ∷ [])) _ (sized_one m (among (c ∷ [])) (simp e)) λ u x h. sized_give (λ as'. m + (sum w as' + 1)) x [] (omega arith)

  items_size_lem : (m n : ℕ) → Sized (Listed m) m (items p (c ∷ []) n)
  unfolding items sum
  items_size_lem m zero = sized_fail (Listed m) m
  items_size_lem m (suc n) =
      sized_bind (λ a. m + w a) p _ (s m) λ a x h.
      sized_bind (λ u. x) ws _ (ws_keeps x) λ u y k.
      sized_bind (λ as'. y + (sum w as' + 1)) _ _
      (sized_next (λ as'. y + (sum w as' + 1)) y (c ∷ []) _ _ (close_size y)
      (sized_bind (λ u. y + 1) (one_of (44 ∷ [])) _ (sized_one y (among (44 ∷ [])) refl) λ u z l.
      sized_bind (λ u. z) ws _ (ws_keeps z) λ u v o.
      sized_as (Listed v) (λ as'. y + (sum w as' + 1)) v v (λ as' q r. omega arith) (items p (c ∷ []) n) (items_size_lem v n)))
      λ as' z l. sized_give (Listed m) z (a ∷ as') (omega arith)

  listed_size : (m : ℕ) → Sized (Listed m) m (listed p (c ∷ []))
  unfolding listed
  listed_size m =
      sized_bind (λ u. m) ws _ (ws_keeps m) λ u x h.
      sized_next (Listed m) x (c ∷ []) _ _
      (sized_as (λ as'. x + (sum w as' + 1)) (Listed m) x x (λ as' y q. omega arith) _ (close_size x))
      (sized_counted (Listed m) x _ λ n. sized_as (Listed x) (Listed m) x x (λ as' y q. omega arith) (items p (c ∷ []) n) (items_size_lem x n))

items_sum : (vs : List Json) → items_size (to_items vs) ≡ sum size vs
unfolding items_size to_items sum
items_sum [] = refl
items_sum (v ∷ vs) = ap (λ (n : ℕ). size v + 1 + n) (items_sum vs)

abbrev member_size : Bytes × Json → ℕ
member_size m = length m.0 + 3 + size m.1

members_sum : (ms : List (Bytes × Json)) → members_size (to_members ms) ≡ sum member_size ms
unfolding members_size to_members sum
members_sum [] = refl
members_sum (m ∷ ms) = ap (λ (n : ℕ). length m.0 + 3 + size m.1 + 1 + n) (members_sum ms)

module _ (p : Reader Json) (s : Weighs size p) where
  member_size_lem : Weighs member_size (read_member p)
  unfolding read_member
  member_size_lem m =
      sized_bind (λ c. m + length c + 2) read_string _ (string_size m) λ name x h.
      sized_bind (λ u. x) ws _ (ws_keeps x) λ u y k.
      sized_bind (λ u. y + 1) (one_of (58 ∷ [])) _ (sized_one y (among (58 ∷ [])) refl) λ u z l.
      sized_bind (λ u. z) ws _ (ws_keeps z) λ u v o.
      sized_giving (λ a. m + member_size a) v (λ a. (name, a)) p (sized_as (λ a. v + size a) (λ a. m + (length name + 3 + size a)) v v (λ a q r. omega arith) p (s v))

  array_size : Weighs size (read_array p)
  unfolding read_array size
  array_size m =
      sized_bind (λ u. m + 1) (one_of (91 ∷ [])) _ (sized_one m (among (91 ∷ [])) refl) λ u x h.
      sized_giving (λ v. m + size v) x (λ vs. array (to_items vs)) _
      (sized_as (Listed size p s 93 refl x) (λ vs. m + (1 + max 1 (items_size (to_items vs)))) x x (λ vs y q. rw (items_sum vs) (omega arith)) _ (listed_size size p s 93 refl x))

  object_size : Weighs size (read_object p)
  unfolding read_object size
  object_size m =
      sized_bind (λ u. m + 1) (one_of (123 ∷ [])) _ (sized_one m (among (123 ∷ [])) refl) λ u x h.
      sized_giving (λ v. m + size v) x (λ ms. object (to_members ms)) _
      (sized_as (Listed member_size (read_member p) member_size_lem 125 refl x) (λ ms. m + (1 + max 1 (members_size (to_members ms)))) x x (λ ms y q. rw (members_sum ms) (omega arith)) _
      (listed_size member_size (read_member p) member_size_lem 125 refl x))

literal_size : (v : Bytes) → Small v → 4 ≤ length v → (m : ℕ) → Sized (λ a. m + size a) m (word v giving λ u. literal)
unfolding size
literal_size v h k m = sized_giving (λ a. m + size a) m (λ u. literal) (word v) (sized_as (λ u. m + length v) (λ u. m + 4) m m (λ u x q. omega arith) (word v) (sized_word m v h))

value_of_size : (X Y : Reader Json) → Weighs size X → Weighs size Y → Weighs size (value_of X Y)
unfolding value_of
value_of_size X Y s t m =
    sized_next W m (102 ∷ []) _ _ (literal_size (text "false") (unfold Small in (refl, (refl, (refl, (refl, (refl, tt)))))) (omega arith) m)
    (sized_next W m (110 ∷ []) _ _ (literal_size (text "null") (unfold Small in (refl, (refl, (refl, (refl, tt))))) (omega arith) m)
    (sized_next W m (116 ∷ []) _ _ (literal_size (text "true") (unfold Small in (refl, (refl, (refl, (refl, tt))))) (omega arith) m)
    (sized_next W m (123 ∷ []) _ _ (t m)
    (sized_next W m (91 ∷ []) _ _ (s m)
    (sized_next W m (34 ∷ []) _ _ (texts m)
    (numbers m))))))
  where
    W : Json → ℕ
    W = λ a. m + size a

    texts : (m : ℕ) → Sized (λ a. m + size a) m (read_string giving string)
    texts m = sized_giving (λ a. m + size a) m string read_string (unfold size in sized_as (λ c. m + length c + 2) (λ c. m + (length c + 2)) m m (λ c x q. omega arith) read_string (string_size m))

    numbers : (m : ℕ) → Sized (λ a. m + size a) m (verbatim read_number giving number)
    numbers m = sized_giving (λ a. m + size a) m number (verbatim read_number)
        (unfold size in sized_as (λ c. max 1 (length c)) (λ c. m + max 1 (length c)) 0 m (λ c x q. omega arith) (verbatim read_number) (sized_verbatim 1 read_number number_size))

value_size : (d : ℕ) → Weighs size (read_value d)
unfolding read_value
value_size zero = value_of_size fail fail (λ m. sized_fail (λ a. m + size a) m) (λ m. sized_fail (λ a. m + size a) m)
value_size (suc d) = value_of_size _ _ (array_size (read_value d) (value_size d)) (object_size (read_value d) (value_size d))

end_size : (m : ℕ) → Sized (λ u. m) m end_of_text
unfolding end_of_text
end_size m = record { at = λ l. go l (is_empty l) }
  where
    go : (l : Bytes) (t : Bool) → Within (λ u. m) m l (if t then got (tt {0}) 0 else bad)
    go l true = (omega arith, omega arith)
    go l false = tt

text_size : Sized size 0 read_text
unfolding read_text
text_size =
    sized_bind (λ u. 0) ws _ (ws_keeps 0) λ u x h.
    sized_bind (λ v. x + size v) (read_value 16) _ (value_size 16 x) λ v y k.
    sized_bind (λ u. y) ws _ (ws_keeps y) λ u z l.
    sized_bind (λ u. z) end_of_text _ (end_size z) λ u q o.
    sized_give size q v (omega arith)

-- what a text reads to is no larger than the text
pub json_size : (s : Bytes) (v : Json) → read_json s ≡ Some v → size v ≤ length s
unfolding read_json
json_size s v e = go (read_text s) (text_size.at s) e
  where
    go : (r : Read Json) → Within size 0 s r → value_read r ≡ Some v → size v ≤ length s
    go (got a n) h e = let z : a ≡ v = unfold value_read in cc in rw (← z) (omega arith)
    go bad h e = let z : ◌≡◌ {A = ℕ} 0 1 = unfold value_read in cc in absurd (omega arith)

-- ---- a value takes up bytes of the text

size_some : (v : Json) → 1 ≤ size v
unfolding size
size_some literal = omega arith
size_some (number x) = omega arith
size_some (string x) = omega arith
size_some (array vs) = omega arith
size_some (object ms) = omega arith

pub record Spans (s : Bytes) (i j : ℕ) : Type 0 where
  pub ahead : i < j
  pub inside : j ≤ length s

pub value_spans : (d : ℕ) (s : Bytes) (i : ℕ) {v : Json} {j : ℕ} → read_at (read_value d) s i ≡ got v j → Spans s i j
unfolding read_at more
value_spans d s i {v} {j} e = go (read_value d (drop i s)) ((value_size d 0).at (drop i s)) e
  where
    go : (r : Read Json) → Within (λ a. 0 + size a) 0 (drop i s) r → more i r ≡ got v j → Spans s i j
    go (got a n) h e = let x : i + n ≡ j = cc in record { ahead = omega (arith, size_some a, h.0); inside = omega (arith, size_some a, h.0, h.1, length-drop i s) }
    go bad h e = let z : ◌≡◌ {A = ℕ} 0 1 = cc in absurd (omega arith)
