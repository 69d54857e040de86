-- Texts that are written, read again.
use Rattle.std.specs.Prelude.{if◌then◌else◌, Some}
use mathlib.Core.Path.{◌≡◌, refl, sym, ap, ◌∙◌}
use mathlib.Core.List.{List, [], ◌∷◌, ◌++◌, append_assoc, append-nil}
use mathlib.Core.Bool.{Bool, true, false, ◌&&◌, not, and-eq-true_iff}
use Prim.Native.Nat.{ℕ, zero, suc, ◌≤◌, ◌<◌}
use native.Mathlib.Nat.{le_of_suc-le-suc, not-suc-le-zero}
use native.Mathlib.Omega.{arith}
use lib.ListN.{length, length-append}
use lib.Seq.{drop-append_seam, take-append_seam}
use lib.Dec.{eqb, leb}
use borrow.Author.Tests.{leb-true, leb-false, eq-eqb, ne_eqb, eqb-true}
use Rattle.ascii.specs.Ascii.{Bytes, between, among, is_digit}
use Rattle.json_text.specs.Reader.{got, bad, Reader, more, behind, ◌>>=◌, ◌>>◌, give, end_of_text, peek, satisfy, one_of, byte_range, count_while, many, if_next◌then◌else◌, lead◌to◌then◌else◌, either_read, ◌or◌, mapped, ◌giving◌, as_written, verbatim, counted}
use Rattle.json_text.specs.Lexical.{is_blank, ws, int, frac, exp, read_number, unescaped, read_char, read_chars, read_string}
use Rattle.json_values.specs.Json.{Json, number, string, array, object, to_items, to_members, items, listed, read_member, read_array, read_object, value_of, read_value, read_text, value_read, read_json}
use Rattle.json_text.proofs.Steps.{inside, above}

-- p reads the value a from the bytes x, where t stands behind them
pub record Reads {A : Type 0} (p : Reader A) (x : Bytes) (a : A) (t : Bytes) : Type 0 where
  pub is : p (x ++ t) ≡ got a (length x)

-- ---- the readers

pub reads_bind : {A B : Type 0} (p : Reader A) (k : A → Reader B) (x y : Bytes) {t : Bytes} {a : A} {b : B} → Reads p x a (y ++ t) → Reads (k a) y b t → Reads (p >>= k) (x ++ y) b t
unfolding ◌>>=◌ behind more
reads_bind p k x y {t} e f = record {
  is = rw (append_assoc x y t, e.is, drop-append_seam x (y ++ t), f.is, length-append);
}

pub reads_one : (f : ℕ → Bool) (b : ℕ) (t : Bytes) → f b ≡ true → Reads (satisfy f) (b ∷ []) tt t
unfolding satisfy peek
reads_one f b t h = record { is = rw h }

pub reads_give : {A : Type 0} (a : A) (t : Bytes) → Reads (give a) [] a t
unfolding give
reads_give a t = record { is = refl }

over : (f : ℕ → Bool) (x : Bytes) (u : Bool) → (if u then suc (count_while f x) else 0) ≡ suc (length x) → (u ≡ true) × (count_while f x ≡ length x)
over f x true e = (refl, omega arith)
over f x false e = absurd (omega arith)

none_left : (f : ℕ → Bool) (t : Bytes) → f (peek t) ≡ false → count_while f t ≡ 0
unfolding count_while peek
none_left f [] e = refl
none_left f (c ∷ t) e = rw e

span_all : (f : ℕ → Bool) (x t : Bytes) → count_while f x ≡ length x → f (peek t) ≡ false → count_while f (x ++ t) ≡ length x
unfolding count_while
span_all f [] t e k = none_left f t k
span_all f (b ∷ x) t e k = let q = over f x (f b) e in rw (q.0, span_all f x t q.1 k)

pub reads_many : (f : ℕ → Bool) (x t : Bytes) → count_while f x ≡ length x → f (peek t) ≡ false → Reads (many f) x tt t
unfolding many
reads_many f x t h k = record { is = ap (got tt) (span_all f x t h k) }

module _ {A : Type 0} (p q : Reader A) {x : Bytes} {a : A} {t : Bytes} where
  pub reads_next : (bytes : Bytes) → among bytes (peek (x ++ t)) ≡ true → Reads p x a t → Reads (if_next bytes then p else q) x a t
  unfolding if_next◌then◌else◌
  reads_next bytes h e = record { is = rw h e.is }

  pub reads_other : (bytes : Bytes) → among bytes (peek (x ++ t)) ≡ false → Reads q x a t → Reads (if_next bytes then p else q) x a t
  unfolding if_next◌then◌else◌
  reads_other bytes h e = record { is = rw h e.is }

  pub reads_first : Reads p x a t → Reads (p or q) x a t
  unfolding ◌or◌ either_read
  reads_first e = record { is = rw e.is }

  pub reads_second : p (x ++ t) ≡ bad → Reads q x a t → Reads (p or q) x a t
  unfolding ◌or◌ either_read
  reads_second h e = record { is = rw h e.is }

pub reads_giving : {A B : Type 0} {p : Reader A} {x : Bytes} {a : A} {t : Bytes} (f : A → B) → Reads p x a t → Reads (p giving f) x (f a) t
unfolding ◌giving◌ mapped
reads_giving f e = record { is = rw e.is }

pub reads_verbatim : {A : Type 0} {p : Reader A} {x : Bytes} {a : A} {t : Bytes} → Reads p x a t → Reads (verbatim p) x x t
unfolding verbatim as_written
reads_verbatim {x} {t} e = record { is = rw (e.is, take-append_seam x t) }

pub reads_counted : {A : Type 0} (p : ℕ → Reader A) {x : Bytes} {a : A} {t : Bytes} → Reads (p (suc (length (x ++ t)))) x a t → Reads (counted p) x a t
unfolding counted
reads_counted p e = record { is = e.is }

one_fails : {B : Type 0} (f : ℕ → Bool) (k : Unit {0} → Reader B) (s : Bytes) → f (peek s) ≡ false → (satisfy f >>= k) s ≡ bad
unfolding satisfy ◌>>=◌ behind
one_fails f k s h = rw h

-- ---- strings

-- a printable byte other than `"` and `\`
unfoldable pub is_plain : ℕ → Bool
is_plain b = between 0x20 0x7E b && not (eqb b 34) && not (eqb b 92)

pub record PlainByte (b : ℕ) : Type 0 where
  pub low : 0x20 ≤ b
  pub high : b ≤ 0x7E
  pub quote : eqb b 34 ≡ false
  pub backslash : eqb b 92 ≡ false

not_true : (b : Bool) → not b ≡ true → b ≡ false
not_true true e = sym e
not_true false e = refl

pub plain_byte : (b : ℕ) → is_plain b ≡ true → PlainByte b
unfolding is_plain
plain_byte b e =
    let h1 = (and-eq-true_iff (between 0x20 0x7E b && not (eqb b 34)) (not (eqb b 92))).0 e in
    let h2 = (and-eq-true_iff (between 0x20 0x7E b) (not (eqb b 34))).0 h1.0 in
    let h3 = (and-eq-true_iff (leb 0x20 b) (leb b 0x7E)).0 h2.0 in
    record { low = leb-true 0x20 b h3.0; high = leb-true b 0x7E h3.1; quote = not_true (eqb b 34) h2.1; backslash = not_true (eqb b 92) h1.1 }

not_eq : (b n : ℕ) → eqb b n ≡ false → b ≡ n → ⊥
not_eq b n e h = let z : true ≡ false = sym (eq-eqb b n h) ∙ e in let y : ◌≡◌ {A = ℕ} 0 1 = cc in omega arith

plain_unescaped : (b : ℕ) (t : Bytes) → PlainByte b → unescaped (b ∷ t) ≡ got tt 1
unfolding unescaped lead◌to◌then◌else◌ ◌>>=◌ satisfy behind give more peek
plain_unescaped b t P = go (leb b 0x21) refl (leb b 0x5B) refl
  where
    n34 : b ≡ 34 → ⊥
    n34 = not_eq b 34 P.quote

    n92 : b ≡ 92 → ⊥
    n92 = not_eq b 92 P.backslash

    go : (u : Bool) → leb b 0x21 ≡ u → (v : Bool) → leb b 0x5B ≡ v → unescaped (b ∷ t) ≡ got tt 1
    go true e v f = rw (inside 0x20 0x21 b P.low (leb-true b 0x21 e))
    go false e true f = rw (above 0x20 0x21 b (leb-false b 0x21 e), inside 0x23 0x5B b (omega (arith, leb-false b 0x21 e, n34)) (leb-true b 0x5B f))
    go false e false f =
        rw (above 0x20 0x21 b (leb-false b 0x21 e), above 0x23 0x5B b (leb-false b 0x5B f), inside 0x5D 0x7F b (omega (arith, leb-false b 0x5B f, n92)) (omega (arith, P.high)))

plain_char : (b : ℕ) (t : Bytes) → PlainByte b → Reads read_char (b ∷ []) (b ∷ []) t
unfolding read_char peek
plain_char b t P = reads_other _ _ (92 ∷ []) (simp P.backslash) (reads_verbatim (record { is = plain_unescaped b t P }))

unfoldable pub AllPlain : Bytes → Type 0
AllPlain [] = Unit {0}
AllPlain (b ∷ x) = PlainByte b × AllPlain x

plain_chars : (n : ℕ) (x t : Bytes) → AllPlain x → length x < n → Reads (read_chars n) (x ++ 34 ∷ []) x t
unfolding read_chars AllPlain peek
plain_chars zero x t P h = absurd (not-suc-le-zero h)
plain_chars (suc n) [] t P h = reads_next _ _ (34 ∷ []) refl (reads_bind _ _ (34 ∷ []) [] (reads_one (among (34 ∷ [])) 34 t refl) (reads_give [] t))
plain_chars (suc n) (b ∷ x) t P h =
    reads_other _ _ (34 ∷ []) (simp P.0.quote)
    (reads_bind _ _ (b ∷ []) (x ++ 34 ∷ []) (plain_char b ((x ++ 34 ∷ []) ++ t) P.0)
    (record { is = last (plain_chars n x t P.1 (le_of_suc-le-suc h)) }))
  where
    last : Reads (read_chars n) (x ++ 34 ∷ []) x t → (read_chars n >>= λ cs. give ((b ∷ []) ++ cs)) ((x ++ 34 ∷ []) ++ t) ≡ got (b ∷ x) (length (x ++ 34 ∷ []))
    last e = unfold ◌>>=◌ behind give more in rw e.is (ap (got (b ∷ x)) (omega arith))

-- plain bytes between two quotes
pub string_reads : (x t : Bytes) → AllPlain x → Reads read_string (34 ∷ (x ++ 34 ∷ [])) x t
unfolding read_string
string_reads x t P =
    reads_bind _ _ (34 ∷ []) (x ++ 34 ∷ []) (reads_one (among (34 ∷ [])) 34 ((x ++ 34 ∷ []) ++ t) refl)
    (reads_counted _ (plain_chars (suc (length ((x ++ 34 ∷ []) ++ t))) x t P (omega (arith, length-append (x ++ 34 ∷ []) t, length-append x (34 ∷ [])))))

-- ---- numbers

pub record NumberText (x : Bytes) : Type 0 where
  pub first : ℕ
  pub others : Bytes
  pub split : x ≡ first ∷ others
  pub from : 48 ≤ first
  pub upto : first ≤ 57
  pub rest_digits : count_while is_digit others ≡ length others
  pub zero_alone : first ≡ 48 → others ≡ []

-- no byte of a number stands first in t
pub record NumberEnd (t : Bytes) : Type 0 where
  pub no_digit : is_digit (peek t) ≡ false
  pub no_dot : eqb (peek t) 46 ≡ false
  pub no_E : eqb (peek t) 69 ≡ false
  pub no_e : eqb (peek t) 101 ≡ false

module _ (b : ℕ) (x t : Bytes) (h : 48 ≤ b) (k : b ≤ 57) (ds : count_while is_digit x ≡ length x) (z : b ≡ 48 → x ≡ []) (E : NumberEnd t) where
  int_reads : Reads int (b ∷ x) tt t
  unfolding int
  int_reads = go (eqb b 48) refl
    where
      go : (u : Bool) → eqb b 48 ≡ u → Reads (one_of (48 ∷ []) or byte_range 0x31 0x39 >> many is_digit) (b ∷ x) tt t
      go true e = rw (z (eqb-true b 48 e)) (reads_first _ _ (reads_one (among (48 ∷ [])) b t (simp e)))
      go false e =
          reads_second _ _ (unfold satisfy peek in simp e)
          (reads_bind _ _ (b ∷ []) x (reads_one (between 0x31 0x39) b (x ++ t) (inside 0x31 0x39 b (omega (arith, not_eq b 48 e)) k)) (reads_many is_digit x t ds E.no_digit))

  number_reads : Reads read_number (b ∷ x) tt t
  unfolding read_number
  number_reads =
      reads_bind _ _ [] (b ∷ x) (reads_second _ _ (unfold satisfy peek in simp (ne_eqb b 45 (λ q. omega arith))) (reads_give tt (b ∷ (x ++ t))))
      (rw (← append-nil (b ∷ x)) (reads_bind _ _ (b ∷ x) [] int_reads
      (reads_bind _ _ [] [] (reads_second _ _ (unfold frac in one_fails (among (46 ∷ [])) _ t (simp E.no_dot)) (reads_give tt t))
      (reads_second _ _ (unfold exp in one_fails (among (69 ∷ 101 ∷ [])) _ t (simp (E.no_E, E.no_e))) (reads_give tt t)))))

pub number_value : (x t : Bytes) → NumberText x → NumberEnd t → Reads read_number x tt t
number_value x t N E = rw N.split (number_reads N.first N.others t N.from N.upto N.rest_digits N.zero_alone E)

-- ---- values: the first byte says which

module _ (X Y : Reader Json) (x t : Bytes) where
  pub string_is : AllPlain x → Reads (value_of X Y) (34 ∷ (x ++ 34 ∷ [])) (string x) t
  unfolding value_of peek
  string_is P =
      reads_other _ _ (102 ∷ []) refl (reads_other _ _ (110 ∷ []) refl (reads_other _ _ (116 ∷ []) refl (reads_other _ _ (123 ∷ []) refl (reads_other _ _ (91 ∷ []) refl
      (reads_next _ _ (34 ∷ []) refl (reads_giving string (string_reads x t P)))))))

  pub array_is : {v : Json} → Reads X (91 ∷ x) v t → Reads (value_of X Y) (91 ∷ x) v t
  unfolding value_of peek
  array_is e = reads_other _ _ (102 ∷ []) refl (reads_other _ _ (110 ∷ []) refl (reads_other _ _ (116 ∷ []) refl (reads_other _ _ (123 ∷ []) refl (reads_next _ _ (91 ∷ []) refl e))))

  pub object_is : {v : Json} → Reads Y (123 ∷ x) v t → Reads (value_of X Y) (123 ∷ x) v t
  unfolding value_of peek
  object_is e = reads_other _ _ (102 ∷ []) refl (reads_other _ _ (110 ∷ []) refl (reads_other _ _ (116 ∷ []) refl (reads_next _ _ (123 ∷ []) refl e)))

  pub number_is : NumberText x → NumberEnd t → Reads (value_of X Y) x (number x) t
  unfolding value_of
  number_is N E =
      reads_other _ _ (102 ∷ []) (no 102 (λ q. omega (arith, N.upto))) (reads_other _ _ (110 ∷ []) (no 110 (λ q. omega (arith, N.upto))) (reads_other _ _ (116 ∷ []) (no 116 (λ q. omega (arith, N.upto)))
      (reads_other _ _ (123 ∷ []) (no 123 (λ q. omega (arith, N.upto))) (reads_other _ _ (91 ∷ []) (no 91 (λ q. omega (arith, N.upto))) (reads_other _ _ (34 ∷ []) (no 34 (λ q. omega (arith, N.from)))
      (reads_giving number (reads_verbatim (number_value x t N E))))))))
    where
      no : (c : ℕ) → (N.first ≡ c → ⊥) → among (c ∷ []) (peek (x ++ t)) ≡ false
      no c n = unfold peek in rw (N.split, ne_eqb N.first c n)

-- no blank stands first
no_blanks : (t : Bytes) → is_blank (peek t) ≡ false → Reads ws [] tt t
no_blanks t h = reads_many is_blank [] t (unfold count_while in refl) h

-- ---- members, lists

pub member_reads : (p : Reader Json) (name x t : Bytes) {v : Json} → AllPlain name → is_blank (peek (x ++ t)) ≡ false → Reads p x v t
    → Reads (read_member p) (34 ∷ (name ++ 34 ∷ []) ++ 58 ∷ x) (name, v) t
unfolding read_member
member_reads p name x t P h e =
    reads_bind _ _ (34 ∷ (name ++ 34 ∷ [])) (58 ∷ x) (string_reads name (58 ∷ (x ++ t)) P)
    (reads_bind _ _ [] (58 ∷ x) (no_blanks (58 ∷ (x ++ t)) (unfold is_blank peek in refl))
    (reads_bind _ _ (58 ∷ []) x (reads_one (among (58 ∷ [])) 58 (x ++ t) refl)
    (reads_bind _ _ [] x (no_blanks (x ++ t) h) (reads_giving (λ v. (name, v)) e))))

module _ {A : Type 0} (p : Reader A) (c : ℕ) (cb : is_blank c ≡ false) (n : ℕ) where
  pub last_item : (x t : Bytes) {a : A} → Reads p x a (c ∷ t) → Reads (items p (c ∷ []) (suc n)) (x ++ c ∷ []) (a ∷ []) t
  unfolding items peek
  last_item x t {a} e =
      reads_bind _ _ x (c ∷ []) e
      (reads_bind _ _ [] (c ∷ []) (no_blanks (c ∷ t) cb)
      (reads_bind _ _ (c ∷ []) [] (reads_next _ _ (c ∷ []) (simp (eq-eqb c c refl)) (reads_bind _ _ (c ∷ []) [] (reads_one (among (c ∷ [])) c t (simp (eq-eqb c c refl))) (reads_give [] t)))
      (reads_give (a ∷ []) t)))

  pub more_items : (x y t : Bytes) {a : A} {rest : List A} → eqb 44 c ≡ false → is_blank (peek (y ++ t)) ≡ false → Reads p x a (44 ∷ (y ++ t))
      → Reads (items p (c ∷ []) n) y rest t → Reads (items p (c ∷ []) (suc n)) (x ++ 44 ∷ y) (a ∷ rest) t
  unfolding items peek
  more_items x y t {a} {rest} k h e f =
      reads_bind _ _ x (44 ∷ y) e
      (reads_bind _ _ [] (44 ∷ y) (no_blanks (44 ∷ (y ++ t)) (unfold is_blank in refl))
      (rw (← append-nil (44 ∷ y)) (reads_bind _ _ (44 ∷ y) [] (reads_other _ _ (c ∷ []) (simp k)
      (reads_bind _ _ (44 ∷ []) y (reads_one (among (44 ∷ [])) 44 (y ++ t) refl) (reads_bind _ _ [] y (no_blanks (y ++ t) h) f)))
      (reads_give (a ∷ rest) t))))

-- behind the opening byte: nothing, or items
module _ {A : Type 0} (p : Reader A) (c : ℕ) (cb : is_blank c ≡ false) where
  pub listed_none : (t : Bytes) → Reads (listed p (c ∷ [])) (c ∷ []) [] t
  unfolding listed peek
  listed_none t =
      reads_bind _ _ [] (c ∷ []) (no_blanks (c ∷ t) cb)
      (reads_next _ _ (c ∷ []) (simp (eq-eqb c c refl)) (reads_bind _ _ (c ∷ []) [] (reads_one (among (c ∷ [])) c t (simp (eq-eqb c c refl))) (reads_give [] t)))

  pub listed_some : (x t : Bytes) {rest : List A} → is_blank (peek (x ++ t)) ≡ false → eqb (peek (x ++ t)) c ≡ false
      → Reads (items p (c ∷ []) (suc (length (x ++ t)))) x rest t → Reads (listed p (c ∷ [])) x rest t
  unfolding listed
  listed_some x t h k e = reads_bind _ _ [] x (no_blanks (x ++ t) h) (reads_other _ _ (c ∷ []) (simp k) (reads_counted _ e))

pub array_reads : (p : Reader Json) (x t : Bytes) {vs : List Json} → Reads (listed p (93 ∷ [])) x vs t → Reads (read_array p) (91 ∷ x) (array (to_items vs)) t
unfolding read_array
array_reads p x t e = reads_bind _ _ (91 ∷ []) x (reads_one (among (91 ∷ [])) 91 (x ++ t) refl) (reads_giving (λ vs. array (to_items vs)) e)

pub object_reads : (p : Reader Json) (x t : Bytes) {ms : List (Bytes × Json)} → Reads (listed (read_member p) (125 ∷ [])) x ms t → Reads (read_object p) (123 ∷ x) (object (to_members ms)) t
unfolding read_object
object_reads p x t e = reads_bind _ _ (123 ∷ []) x (reads_one (among (123 ∷ [])) 123 (x ++ t) refl) (reads_giving (λ ms. object (to_members ms)) e)

-- ---- a whole text without blanks around it

end_reads : Reads end_of_text [] tt []
unfolding end_of_text
end_reads = record { is = refl }

whole_reads : (x : Bytes) (v : Json) → is_blank (peek x) ≡ false → Reads (read_value 16) x v [] → Reads read_text x v []
unfolding read_text
whole_reads x v h e =
    reads_bind _ _ [] x (no_blanks (x ++ []) (rw (append-nil x) h))
    (rw (← append-nil x) (reads_bind _ _ x [] e (reads_bind _ _ [] [] (no_blanks [] (unfold is_blank peek in refl))
    (reads_bind _ _ [] [] end_reads (reads_give v [])))))

pub text_reads : (x : Bytes) (v : Json) → is_blank (peek x) ≡ false → Reads (read_value 16) x v [] → read_json x ≡ Some v
unfolding read_json value_read
text_reads x v h e = let z : read_text x ≡ got v (length x) = rw (append-nil x) at (whole_reads x v h e).is in rw z
