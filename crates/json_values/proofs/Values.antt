-- The ways through a value and a whole text.
use Rattle.std.specs.Prelude.{Option, Some, None, SomeIff}
use mathlib.Core.Path.{◌≡◌, refl, ap, sym, ◌∙◌}
use mathlib.Core.Bool.{Bool, true, false, not}
use mathlib.Core.List.{[], ◌∷◌}
use Prim.Native.Nat.{ℕ, zero, suc, ◌+◌, ◌-◌, ◌≤◌, ◌<◌}
use native.Mathlib.Omega.{arith}
use lib.ListN.{length, drop_of_length-le}
use lib.Seq.{drop-cons}
use lib.Dec.{leb}
use Rattle.json_text.proofs.NumberSteps.{number_gone}
use borrow.Author.Tests.{leb-true, leb-false}
use native.Mathlib.Nat.{add-zero}
use Rattle.ascii.specs.Ascii.{Bytes, is_none}
use Rattle.json_text.specs.Reader.{Read, got, bad, Reader, more, fail, end_of_text, word, if_next◌then◌else◌, verbatim}
use Rattle.json_text.specs.Lexical.{ws, read_number, read_string}
use Rattle.json_values.specs.Json.{Json, literal, number, string, listed, read_member, read_array, read_object, value_of, read_value, read_text, value_read, read_json}
use Rattle.json_text.specs.code.Places.{Peeked, read_at, place_of}
use Rattle.json_text.proofs.Steps.{seen, here, gone, on, then_bad, one_yes, next_no, give_at, fail_at, place_giving, place_verbatim, found, missed, is_one, not_one}

-- ---- values

module _ {s : Bytes} {i b : ℕ} (g : Peeked s i (Some b)) (X Y : Reader Json) where
  is_true_lem : b ≡ 116 → place_of (read_at (value_of X Y) s i) ≡ place_of (read_at (word (116 ∷ 114 ∷ 117 ∷ 101 ∷ [])) s i)
  unfolding read_at value_of if_next◌then◌else◌
  is_true_lem h = rw (← seen g, h) (place_giving (word (116 ∷ 114 ∷ 117 ∷ 101 ∷ [])) (λ u. literal) s i)

  is_false : b ≡ 102 → place_of (read_at (value_of X Y) s i) ≡ place_of (read_at (word (102 ∷ 97 ∷ 108 ∷ 115 ∷ 101 ∷ [])) s i)
  unfolding read_at value_of if_next◌then◌else◌
  is_false h = rw (← seen g, h) (place_giving (word (102 ∷ 97 ∷ 108 ∷ 115 ∷ 101 ∷ [])) (λ u. literal) s i)

  is_null : b ≡ 110 → place_of (read_at (value_of X Y) s i) ≡ place_of (read_at (word (110 ∷ 117 ∷ 108 ∷ 108 ∷ [])) s i)
  unfolding read_at value_of if_next◌then◌else◌
  is_null h = rw (← seen g, h) (place_giving (word (110 ∷ 117 ∷ 108 ∷ 108 ∷ [])) (λ u. literal) s i)

  is_string_lem : b ≡ 34 → place_of (read_at (value_of X Y) s i) ≡ place_of (read_at read_string s i)
  unfolding read_at value_of if_next◌then◌else◌
  is_string_lem h = rw (← seen g, h) (place_giving read_string string s i)

  is_array : b ≡ 91 → read_at (value_of X Y) s i ≡ read_at X s i
  unfolding read_at value_of if_next◌then◌else◌
  is_array h = rw (← seen g, h)

  is_object : b ≡ 123 → read_at (value_of X Y) s i ≡ read_at Y s i
  unfolding read_at value_of if_next◌then◌else◌
  is_object h = rw (← seen g, h)

  is_number : (b ≡ 34 → ⊥) → (b ≡ 91 → ⊥) → (b ≡ 123 → ⊥) → (b ≡ 102 → ⊥) → (b ≡ 110 → ⊥) → (b ≡ 116 → ⊥)
      → place_of (read_at (value_of X Y) s i) ≡ place_of (read_at read_number s i)
  unfolding value_of
  is_number a1 a2 a3 a4 a5 a6 =
      rw (next_no g _ _ _ (not_one b 102 a4), next_no g _ _ _ (not_one b 110 a5), next_no g _ _ _ (not_one b 116 a6), next_no g _ _ _ (not_one b 123 a3), next_no g _ _ _ (not_one b 91 a2), next_no g _ _ _ (not_one b 34 a1))
      (place_giving (verbatim read_number) number s i ∙ place_verbatim read_number s i)

none_is : {s : Bytes} {i : ℕ} → Peeked s i None → (X Y : Reader Json) → place_of (read_at (value_of X Y) s i) ≡ None
unfolding value_of
none_is {s} {i} g X Y =
    rw (next_no g _ _ _ refl, next_no g _ _ _ refl, next_no g _ _ _ refl, next_no g _ _ _ refl, next_no g _ _ _ refl, next_no g _ _ _ refl)
    (place_giving (verbatim read_number) number s i ∙ place_verbatim read_number s i ∙ sym (number_gone g))

record Opened (d : ℕ) : Type 0 where
  arrays : Reader Json
  objects : Reader Json
  is : read_value d ≡ value_of arrays objects

value_some : (d : ℕ) → Opened d
unfolding read_value
value_some zero = record { arrays = fail; objects = fail; is = refl }
value_some (suc d) = record { arrays = read_array (read_value d); objects = read_object (read_value d); is = refl }

value_none : (d : ℕ) → d ≡ 0 → read_value d ≡ value_of fail fail
unfolding read_value
value_none zero e = refl
value_none (suc d) e = absurd (omega arith)

-- what `checked_sub` of 1 says
none_less : {r : Option ℕ} (d : ℕ) → SomeIff r (1 ≤ d) (d - 1) → r ≡ None → d ≡ 0
none_less {r = None} d t e = omega (arith, t)
none_less {r = Some x} d t e = grind arith

some_less : {r : Option ℕ} {n : ℕ} (d : ℕ) → SomeIff r (1 ≤ d) (d - 1) → r ≡ Some n → (d ≡ 0 → ⊥) × (d - 1 ≡ n)
some_less {r = None} d t e = grind arith
some_less {r = Some x} d t e = grind arith

value_less : (d : ℕ) → (d ≡ 0 → ⊥) → read_value d ≡ value_of (read_array (read_value (d - 1))) (read_object (read_value (d - 1)))
unfolding read_value
value_less zero n = absurd (n refl)
value_less (suc d) n = let e : suc d - 1 ≡ d = omega arith in rw e

pub value_gone : {s : Bytes} {i : ℕ} {x : Option ℕ} (d : ℕ) → Peeked s i x → x ≡ None → None ≡ place_of (read_at (read_value d) s i)
value_gone {s} {i} d p e = let v = value_some d in rw v.is (sym (none_is (gone p e) v.arrays v.objects))

module _ {s : Bytes} {i : ℕ} {x : Option ℕ} {b : ℕ} (d : ℕ) (p : Peeked s i x) (y : x ≡ Some b) where
  g : Peeked s i (Some b)
  g = here p y

  pub value_true : {q : Option ℕ} → b ≡ 116 → q ≡ place_of (read_at (word (116 ∷ 114 ∷ 117 ∷ 101 ∷ [])) s i) → q ≡ place_of (read_at (read_value d) s i)
  value_true h r = let v = value_some d in rw (v.is, is_true_lem g v.arrays v.objects h) r

  pub value_false : {q : Option ℕ} → b ≡ 102 → q ≡ place_of (read_at (word (102 ∷ 97 ∷ 108 ∷ 115 ∷ 101 ∷ [])) s i) → q ≡ place_of (read_at (read_value d) s i)
  value_false h r = let v = value_some d in rw (v.is, is_false g v.arrays v.objects h) r

  pub value_null : {q : Option ℕ} → b ≡ 110 → q ≡ place_of (read_at (word (110 ∷ 117 ∷ 108 ∷ 108 ∷ [])) s i) → q ≡ place_of (read_at (read_value d) s i)
  value_null h r = let v = value_some d in rw (v.is, is_null g v.arrays v.objects h) r

  pub value_string : {q : Option ℕ} → b ≡ 34 → q ≡ place_of (read_at read_string s i) → q ≡ place_of (read_at (read_value d) s i)
  value_string h r = let v = value_some d in rw (v.is, is_string_lem g v.arrays v.objects h) r

  pub value_number : {q : Option ℕ} → (b ≡ 34 → ⊥) → (b ≡ 91 → ⊥) → (b ≡ 123 → ⊥) → (b ≡ 102 → ⊥) → (b ≡ 110 → ⊥) → (b ≡ 116 → ⊥)
      → q ≡ place_of (read_at read_number s i) → q ≡ place_of (read_at (read_value d) s i)
  value_number a1 a2 a3 a4 a5 a6 r = let v = value_some d in rw (v.is, is_number g v.arrays v.objects a1 a2 a3 a4 a5 a6) r

  pub value_array : {q r : Option ℕ} {n : ℕ} → b ≡ 91 → SomeIff r (1 ≤ d) (d - 1) → r ≡ Some n → q ≡ place_of (read_at (listed (read_value n) (93 ∷ [])) s (i + 1)) → q ≡ place_of (read_at (read_value d) s i)
  unfolding read_array
  value_array h t u e = let l = some_less d t u in rw (value_less d l.0, l.1, is_array g _ _ h, on _ _ _ _ (one_yes g _ (is_one b 91 h)), place_giving) e

  pub value_object : {q r : Option ℕ} {n : ℕ} → b ≡ 123 → SomeIff r (1 ≤ d) (d - 1) → r ≡ Some n → q ≡ place_of (read_at (listed (read_member (read_value n)) (125 ∷ [])) s (i + 1)) → q ≡ place_of (read_at (read_value d) s i)
  unfolding read_object
  value_object h t u e = let l = some_less d t u in rw (value_less d l.0, l.1, is_object g _ _ h, on _ _ _ _ (one_yes g _ (is_one b 123 h)), place_giving) e

module _ {s : Bytes} {i : ℕ} {x : Option ℕ} {b : ℕ} (d : ℕ) (p : Peeked s i x) (y : x ≡ Some b) where
  o : Peeked s i (Some b)
  o = here p y

  pub value_deep_array : {r : Option ℕ} → b ≡ 91 → SomeIff r (1 ≤ d) (d - 1) → r ≡ None → None ≡ place_of (read_at (read_value d) s i)
  unfolding place_of
  value_deep_array h t u = rw (value_none d (none_less d t u), is_array o _ _ h, fail_at)

  pub value_deep_object : {r : Option ℕ} → b ≡ 123 → SomeIff r (1 ≤ d) (d - 1) → r ≡ None → None ≡ place_of (read_at (read_value d) s i)
  unfolding place_of
  value_deep_object h t u = rw (value_none d (none_less d t u), is_object o _ _ h, fail_at)

-- ---- a whole text

more_zero : {A : Type 0} (r : Read A) → more 0 r ≡ r
unfolding more
more_zero (got a n) = ap (got a) (omega arith)
more_zero bad = refl

-- readable or not
abbrev pub is_read : {A : Type 0} → Read A → Bool
is_read (got a n) = true
is_read bad = false

read_is : (r : Read Json) → not (is_none (value_read r)) ≡ is_read r
unfolding value_read
read_is (got a n) = refl
read_is bad = refl

text_is : (s : Bytes) → not (is_none (read_json s)) ≡ is_read (read_at read_text s 0)
unfolding read_json read_at
text_is s = read_is (read_text s) ∙ ap is_read (sym (more_zero (read_text s)))

end_yes : (s : Bytes) (k : ℕ) → length s ≤ k → read_at end_of_text s k ≡ got tt k
unfolding read_at end_of_text more
end_yes s k h = rw (drop_of_length-le s h, add-zero)

end_no : (s : Bytes) (k : ℕ) → k < length s → read_at end_of_text s k ≡ bad
unfolding read_at end_of_text more
end_no s k h = rw (drop-cons s k 0 h)

module _ (s : Bytes) {i : ℕ} {q : Option ℕ} (e : read_at ws s 0 ≡ got tt i) (f : q ≡ place_of (read_at (read_value 16) s i)) where
  pub text_bad : q ≡ None → false ≡ not (is_none (read_json s))
  unfolding read_text
  text_bad h = rw (text_is s, on _ _ _ _ e, then_bad _ _ _ _ (missed _ f h))

  module _ {j k : ℕ} (h : q ≡ Some j) (g : read_at ws s j ≡ got tt k) where
    text_more : k < length s → false ≡ not (is_none (read_json s))
    unfolding read_text
    text_more l = rw (text_is s, on _ _ _ _ e, on _ _ _ _ (found _ f h).1, on _ _ _ _ g, then_bad _ _ _ _ (end_no s k l))

    text_whole : length s ≤ k → true ≡ not (is_none (read_json s))
    unfolding read_text
    text_whole l = rw (text_is s, on _ _ _ _ e, on _ _ _ _ (found _ f h).1, on _ _ _ _ g, on _ _ _ _ (end_yes s k l), give_at)

    pub text_end : leb (length s) k ≡ not (is_none (read_json s))
    text_end = go (leb (length s) k) refl
      where
        go : (t : Bool) → leb (length s) k ≡ t → t ≡ not (is_none (read_json s))
        go true l = text_whole (leb-true (length s) k l)
        go false l = text_more (leb-false (length s) k l)
