-- What the first byte of a value tells of it.
use Rattle.std.specs.Prelude.{if◌then◌else◌, None, Option}
use mathlib.Core.Path.{◌≡◌, refl, sym, ap, ◌∙◌}
use mathlib.Core.Bool.{Bool, true, false, and-false}
use mathlib.Core.List.{[], ◌∷◌}
use Prim.Native.Nat.{ℕ, zero, suc, ◌+◌, ◌-◌, ◌<◌}
use native.Mathlib.Omega.{arith}
use lib.Dec.{eqb, leb}
use lib.ListN.{take, drop}
use borrow.Author.Tests.{eqb-true, eqb-false, eq-eqb, ne_eqb, lt-leb}
use Rattle.ascii.specs.Ascii.{Bytes, all, among, is_digit, number16}
use Rattle.json_text.specs.Reader.{Read, got, bad, Reader, more, peek, fail, if_next◌then◌else◌, ◌giving◌, verbatim, as_written, mapped}
use Rattle.json_text.specs.Lexical.{read_number, read_string}
use Rattle.json_text.specs.code.Places.{Peeked, read_at}
use Rattle.json_text.proofs.Steps.{wide, seen, on, one_yes, next_yes, next_no, fail_at, giving_at, is_one}
use Rattle.json_values.specs.Json.{Json, literal, number, string, array, object, Jsons, Members, to_items, to_members, listed, read_member, read_array, read_object, value_of, read_value}
use Rattle.trusted_list.specs.TrustedList.{as_object, as_array, read_number16}
use Rattle.trusted_list.specs.code.Slots.{is_string}

-- ---- objects and arrays

module _ {s : Bytes} {i : ℕ} {o : Option ℕ} (g : Peeked s i o) (d : ℕ) where
  pub object_at : wide o ≡ 123 → read_at (read_value (suc d)) s i ≡ mapped (λ ms. object (to_members ms)) (read_at (listed (read_member (read_value d)) (125 ∷ [])) s (i + 1))
  unfolding read_value read_object
  object_at h = chosen (read_array (read_value d)) (read_object (read_value d)) ∙ on _ _ _ _ (one_yes g _ (is_one (wide o) 123 h)) ∙ giving_at (listed (read_member (read_value d)) (125 ∷ [])) (λ ms. object (to_members ms)) s (i + 1)
    where
      chosen : (X Y : Reader Json) → read_at (value_of X Y) s i ≡ read_at Y s i
      chosen X Y = unfold read_at value_of if_next◌then◌else◌ in (rw (← seen g, h))

  pub array_at : wide o ≡ 91 → read_at (read_value (suc d)) s i ≡ mapped (λ vs. array (to_items vs)) (read_at (listed (read_value d) (93 ∷ [])) s (i + 1))
  unfolding read_value read_array
  array_at h = chosen (read_array (read_value d)) (read_object (read_value d)) ∙ on _ _ _ _ (one_yes g _ (is_one (wide o) 91 h)) ∙ giving_at (listed (read_value d) (93 ∷ [])) (λ vs. array (to_items vs)) s (i + 1)
    where
      chosen : (X Y : Reader Json) → read_at (value_of X Y) s i ≡ read_at X s i
      chosen X Y = unfold read_at value_of if_next◌then◌else◌ in (rw (← seen g, h))

-- ---- every value, by its first byte

pub record Given {A B : Type 0} (f : A → B) (r : Read A) (v : B) (j : ℕ) : Type 0 where
  pub from : A
  pub read : r ≡ got from j
  pub is : f from ≡ v

pub given : {A B : Type 0} (f : A → B) (r : Read A) {v : B} {j : ℕ} → mapped f r ≡ got v j → Given f r v j
unfolding mapped
given f (got a n) {v} {j} e =
    let x : f a ≡ v = cc in
    let y : n ≡ j = cc in
    record { from = a; read = ap (got a) y; is = x }
given f bad e = let z : ◌≡◌ {A = ℕ} 0 1 = cc in absurd (omega arith)

module _ {s : Bytes} {i : ℕ} {o : Option ℕ} (g : Peeked s i o) (P : Json → ℕ → Type 0)
    (lit : (j : ℕ) → 91 < wide o → wide o < 123 → P literal j)
    (obj : (ms : Members) (j : ℕ) → wide o ≡ 123 → P (object ms) j)
    (arr : (vs : Jsons) (j : ℕ) → wide o ≡ 91 → P (array vs) j)
    (str : (x : Bytes) (j : ℕ) → wide o ≡ 34 → P (string x) j)
    (num : (x : Bytes) (j : ℕ) → (wide o ≡ 34 → ⊥) → (wide o ≡ 91 → ⊥) → (wide o ≡ 123 → ⊥) → read_at (verbatim read_number) s i ≡ got x j → P (number x) j) where
  abbrev Tells : Reader Json → Type 0
  Tells p = (v : Json) (j : ℕ) → read_at p s i ≡ got v j → P v j

  choose : (c : ℕ) (p q : Reader Json) → (wide o ≡ c → Tells p) → ((wide o ≡ c → ⊥) → Tells q) → Tells (if_next (c ∷ []) then p else q)
  choose c p q f h v j e = go (eqb (wide o) c) refl
    where
      to_among : (u : Bool) → eqb (wide o) c ≡ u → among (c ∷ []) (wide o) ≡ u
      to_among true e = rw e
      to_among false e = rw e

      go : (u : Bool) → eqb (wide o) c ≡ u → P v j
      go true w = f (eqb-true (wide o) c w) v j (sym (next_yes g p q (c ∷ []) (to_among true w)) ∙ e)
      go false w = h (eqb-false (wide o) c w) v j (sym (next_no g p q (c ∷ []) (to_among false w)) ∙ e)

  give_tells : {A : Type 0} (p : Reader A) (f : A → Json) → ((a : A) (j : ℕ) → read_at p s i ≡ got a j → P (f a) j) → Tells (p giving f)
  give_tells p f h v j e =
      let G = given f (read_at p s i) (sym (giving_at p f s i) ∙ e) in
      rw (← G.is) (h G.from j G.read)

  value_of_tells : (X Y : Reader Json) → (wide o ≡ 91 → Tells X) → (wide o ≡ 123 → Tells Y) → Tells (value_of X Y)
  unfolding value_of
  value_of_tells X Y x y =
      choose 102 _ _ (λ h. give_tells _ _ (λ a j e. lit j (omega arith) (omega arith))) λ n1.
      choose 110 _ _ (λ h. give_tells _ _ (λ a j e. lit j (omega arith) (omega arith))) λ n2.
      choose 116 _ _ (λ h. give_tells _ _ (λ a j e. lit j (omega arith) (omega arith))) λ n3.
      choose 123 _ _ y λ n4.
      choose 91 _ _ x λ n5.
      choose 34 _ _ (λ h. give_tells read_string string (λ a j e. str a j h)) λ n6.
      give_tells (verbatim read_number) number (λ a j e. num a j n6 n5 n4 e)

  fail_tells : Tells fail
  fail_tells v j e = let z : ◌≡◌ {A = ℕ} 0 1 = cc (fail_at {A = Json} s i) in absurd (omega arith)

  array_tells : (p : Reader Json) → wide o ≡ 91 → Tells (read_array p)
  unfolding read_array
  array_tells p h v j e =
      let f = sym (on _ _ _ _ (one_yes g _ (is_one (wide o) 91 h)) ∙ giving_at (listed p (93 ∷ [])) (λ vs. array (to_items vs)) s (i + 1)) ∙ e in
      let G = given (λ vs. array (to_items vs)) (read_at (listed p (93 ∷ [])) s (i + 1)) f in
      rw (← G.is) (arr (to_items G.from) j h)

  object_tells : (p : Reader Json) → wide o ≡ 123 → Tells (read_object p)
  unfolding read_object
  object_tells p h v j e =
      let f = sym (on _ _ _ _ (one_yes g _ (is_one (wide o) 123 h)) ∙ giving_at (listed (read_member p) (125 ∷ [])) (λ ms. object (to_members ms)) s (i + 1)) ∙ e in
      let G = given (λ ms. object (to_members ms)) (read_at (listed (read_member p) (125 ∷ [])) s (i + 1)) f in
      rw (← G.is) (obj (to_members G.from) j h)

  pub value_tells : (d : ℕ) → Tells (read_value d)
  unfolding read_value
  value_tells zero = value_of_tells fail fail (λ h. fail_tells) (λ h. fail_tells)
  value_tells (suc d) = value_of_tells (read_array (read_value d)) (read_object (read_value d)) (array_tells (read_value d)) (object_tells (read_value d))

module _ {s : Bytes} {i : ℕ} {o : Option ℕ} (g : Peeked s i o) (d : ℕ) {v : Json} {j : ℕ} (e : read_at (read_value d) s i ≡ got v j) where
  pub string_first : is_string v ≡ eqb (wide o) 34
  unfolding is_string
  string_first = value_tells g (λ v j. is_string v ≡ eqb (wide o) 34)
      (λ j l h. sym (ne_eqb (wide o) 34 (λ z. omega arith)))
      (λ ms j h. sym (ne_eqb (wide o) 34 (λ z. omega arith)))
      (λ vs j h. sym (ne_eqb (wide o) 34 (λ z. omega arith)))
      (λ x j h. sym (eq-eqb (wide o) 34 h))
      (λ x j n1 n2 n3 e. sym (ne_eqb (wide o) 34 n1))
      d v j e

  pub not_object : (wide o ≡ 123 → ⊥) → as_object v ≡ None
  not_object n = value_tells g (λ v j. as_object v ≡ None) (λ j l h. refl) (λ ms j h. absurd (n h)) (λ vs j h. refl) (λ x j h. refl) (λ x j n1 n2 n3 e. refl) d v j e

  pub not_array : (wide o ≡ 91 → ⊥) → as_array v ≡ None
  not_array n = value_tells g (λ v j. as_array v ≡ None) (λ j l h. refl) (λ ms j h. refl) (λ vs j h. absurd (n h)) (λ x j h. refl) (λ x j n1 n2 n3 e. refl) d v j e

-- ---- the text of a number

no_digits : (b m : ℕ) (l : Bytes) → b ≡ peek l → is_digit b ≡ false → number16 (take m l) ≡ None
unfolding number16 peek all
no_digits b zero l e n = refl
no_digits b (suc m) [] e n = refl
no_digits b (suc m) (c ∷ l) e n = rw (← e, n)

digit_not : (b : ℕ) → 57 < b → is_digit b ≡ false
unfolding is_digit
digit_not b h = rw (lt-leb b 57 h, and-false (leb 48 b))

written : {A : Type 0} (l : Bytes) (i : ℕ) (r : Read A) {x : Bytes} {j : ℕ} → more i (as_written l r) ≡ got x j → x ≡ take (j - i) l
unfolding more as_written
written l i (got a n) {x} {j} e =
    let y : take n l ≡ x = cc in
    let z : i + n ≡ j = cc in
    let w : j - i ≡ n = omega arith in
    rw w (sym y)
written l i bad e = let z : ◌≡◌ {A = ℕ} 0 1 = cc in absurd (omega arith)

pub number_text : {s : Bytes} {i : ℕ} {o : Option ℕ} (g : Peeked s i o) (d : ℕ) {v : Json} {j : ℕ} → read_at (read_value d) s i ≡ got v j → number16 (take (j - i) (drop i s)) ≡ read_number16 v
unfolding read_number16
number_text {s} {i} {o} g d {v} {j} e = value_tells g (λ v j. number16 (take (j - i) (drop i s)) ≡ read_number16 v)
    (λ j l h. no_digits (wide o) (j - i) (drop i s) (seen g) (digit_not (wide o) (omega arith)))
    (λ ms j h. no_digits (wide o) (j - i) (drop i s) (seen g) (digit_not (wide o) (omega arith)))
    (λ vs j h. no_digits (wide o) (j - i) (drop i s) (seen g) (digit_not (wide o) (omega arith)))
    (λ x j h. no_digits (wide o) (j - i) (drop i s) (seen g) (quote h))
    (λ x j n1 n2 n3 e. ap number16 (sym (text_of x j e)))
    d v j e
  where
    quote : wide o ≡ 34 → is_digit (wide o) ≡ false
    quote h = unfold is_digit in (rw h)

    text_of : (x : Bytes) (j : ℕ) → read_at (verbatim read_number) s i ≡ got x j → x ≡ take (j - i) (drop i s)
    text_of x j e = unfold read_at verbatim in (written (drop i s) i (read_number (drop i s)) e)
