-- The list as cleaning writes it, read again: the tree that was meant. Assumes nothing.
use mathlib.Core.Path.{◌≡◌, refl, sym, ap, ◌∙◌}
use mathlib.Core.List.{List, [], ◌∷◌, ◌++◌, map, append_assoc}
use mathlib.Core.Bool.{Bool, true, false, and-eq-true_iff}
use Rattle.std.specs.Prelude.{Some}
use Prim.Native.Nat.{ℕ, zero, suc, ◌≤◌}
use native.Mathlib.Nat.{le_of_suc-le-suc, not-suc-le-zero}
use native.Mathlib.Omega.{arith}
use lib.ListN.{length, length-append}
use borrow.Author.Tests.{ne_eqb}
use Rattle.ascii.specs.Ascii.{Bytes, all, is_digit, text, prefixed, join_with, decimal}
use Rattle.ascii.proofs.NumberLaws.{digit_in}
use Rattle.ascii.proofs.DecimalLaws.{decimal_numeral}
use Rattle.normal_forms.specs.code.Normals.{is_plain_byte}
use Rattle.json_text.specs.Reader.{Reader, peek, count_while}
use Rattle.json_text.specs.Lexical.{is_blank}
use Rattle.json_values.specs.Json.{Json, number, string, array, object, to_items, to_members, items, read_member, read_object, read_value, read_json}
use Rattle.json_values.proofs.Rereads.{Reads, is_plain, plain_byte, AllPlain, NumberText, NumberEnd, string_is, array_is, object_is, number_is, member_reads, last_item, more_items, listed_none, listed_some, array_reads, object_reads, text_reads}
use Rattle.cleaning.specs.Clean.{quoted, render}

-- ---- plain bytes and numbers

plain_all : (x : Bytes) → all is_plain_byte x ≡ true → AllPlain x
unfolding AllPlain all is_plain_byte is_plain
plain_all [] e = tt
plain_all (b ∷ x) e = let h = (and-eq-true_iff (is_plain_byte b) (all is_plain_byte x)).0 e in (plain_byte b h.0, plain_all x h.1)

count_all : (f : ℕ → Bool) (x : Bytes) → all f x ≡ true → count_while f x ≡ length x
unfolding all count_while
count_all f [] e = refl
count_all f (b ∷ x) e = let h = (and-eq-true_iff (f b) (all f x)).0 e in rw (h.0, count_all f x h.1)

number_text : (n : ℕ) → n ≤ 65535 → NumberText (decimal n)
unfolding all
number_text n h =
    let N = decimal_numeral n h in
    let d : all is_digit (N.first ∷ N.others) ≡ true = rw N.split at N.digits in
    let k = (and-eq-true_iff (is_digit N.first) (all is_digit N.others)).0 d in
    record {
      first = N.first;
      others = N.others;
      split = N.split;
      from = (digit_in N.first k.0).low;
      upto = (digit_in N.first k.0).high;
      rest_digits = count_all is_digit N.others k.1;
      zero_alone = λ e. (N.leading e).1;
    }

comma_ends : (t : Bytes) → NumberEnd (44 ∷ t)
unfolding is_digit peek
comma_ends t = record { no_digit = refl; no_dot = refl; no_E = refl; no_e = refl }

brace_ends : (t : Bytes) → NumberEnd (125 ∷ t)
unfolding is_digit peek
brace_ends t = record { no_digit = refl; no_dot = refl; no_E = refl; no_e = refl }

not_blank : (b : ℕ) → 48 ≤ b → is_blank b ≡ false
unfolding is_blank
not_blank b h = rw (ne_eqb b 32 (λ e. omega arith), ne_eqb b 9 (λ e. omega arith), ne_eqb b 10 (λ e. omega arith), ne_eqb b 13 (λ e. omega arith))

number_start : (x t : Bytes) → NumberText x → is_blank (peek (x ++ t)) ≡ false
unfolding peek
number_start x t N = rw N.split (not_blank N.first N.from)

-- ---- strings and the ids

string_value : (d : ℕ) (x t : Bytes) → all is_plain_byte x ≡ true → Reads (read_value d) (quoted x) (string x) t
unfolding read_value quoted
string_value zero x t e = string_is _ _ x t (plain_all x e)
string_value (suc d) x t e = string_is _ _ x t (plain_all x e)

quote_starts : (x y t : Bytes) → is_blank (peek ((quoted x ++ y) ++ t)) ≡ false
unfolding quoted peek is_blank
quote_starts x y t = refl

-- behind the first string: the others, each behind a comma, and the bracket
abbrev others_text : List Bytes → Bytes
others_text xs = prefixed 44 (map quoted xs) ++ 93 ∷ []

others_more : (y : Bytes) (ys : List Bytes) → others_text (y ∷ ys) ≡ 44 ∷ (quoted y ++ others_text ys)
unfolding prefixed
others_more y ys = ap (λ (t : Bytes). 44 ∷ t) (append_assoc (quoted y) (prefixed 44 (map quoted ys)) (93 ∷ []))

others_none : others_text [] ≡ 93 ∷ []
unfolding prefixed
others_none = refl

ids_items : (d n : ℕ) (x : Bytes) (xs : List Bytes) (t : Bytes) → all (all is_plain_byte) (x ∷ xs) ≡ true → length xs ≤ n
    → Reads (items (read_value d) (93 ∷ []) (suc n)) (quoted x ++ others_text xs) (map string (x ∷ xs)) t
unfolding all
ids_items d n x [] t e h =
    let k = (and-eq-true_iff (all is_plain_byte x) true).0 e in
    rw others_none (last_item (read_value d) 93 (not_blank 93 (omega arith)) n (quoted x) t (string_value d x (93 ∷ t) k.0))
ids_items d zero x (y ∷ ys) t e h = absurd (not-suc-le-zero h)
ids_items d (suc n) x (y ∷ ys) t e h =
    let k = (and-eq-true_iff (all is_plain_byte x) (all (all is_plain_byte) (y ∷ ys))).0 e in
    rw (others_more y ys)
    (more_items (read_value d) 93 (not_blank 93 (omega arith)) (suc n) (quoted x) (quoted y ++ others_text ys) t refl (quote_starts y (others_text ys) t)
    (string_value d x _ k.0) (ids_items d n y ys t k.1 (le_of_suc-le-suc h)))

others_long : (xs : List Bytes) → length xs ≤ length (others_text xs)
unfolding prefixed
others_long [] = omega arith
others_long (x ∷ xs) = omega (
  arith,
  others_long xs,
  length-append (quoted x ++ prefixed 44 (map quoted xs)) (93 ∷ []),
  length-append (quoted x) (prefixed 44 (map quoted xs)),
  length-append (prefixed 44 (map quoted xs)) (93 ∷ []),
)

-- `[`, the ids, `]`
ids_text : List Bytes → Bytes
ids_text ids = 91 ∷ (join_with 44 (map quoted ids) ++ 93 ∷ [])

ids_value : (d : ℕ) (ids : List Bytes) (t : Bytes) → all (all is_plain_byte) ids ≡ true → Reads (read_value (suc d)) (ids_text ids) (array (to_items (map string ids))) t
unfolding read_value join_with ids_text
ids_value d [] t e = array_is _ _ (93 ∷ []) t (array_reads (read_value d) (93 ∷ []) t (listed_none (read_value d) 93 (not_blank 93 (omega arith)) t))
ids_value d (x ∷ xs) t e =
    rw (append_assoc (quoted x) (prefixed 44 (map quoted xs)) (93 ∷ []))
    (array_is _ _ (quoted x ++ others_text xs) t (array_reads (read_value d) (quoted x ++ others_text xs) t
    (listed_some (read_value d) 93 (not_blank 93 (omega arith)) (quoted x ++ others_text xs) t (quote_starts x (others_text xs) t) (unfold quoted peek in refl)
    (ids_items d (length ((quoted x ++ others_text xs) ++ t)) x xs t e (omega (arith, length-append (quoted x ++ others_text xs) t, length-append (quoted x) (others_text xs), others_long xs))))))

-- ---- objects of one member and of two

abbrev member_text : Bytes → Bytes → Bytes
member_text name x = 34 ∷ (name ++ 34 ∷ []) ++ 58 ∷ x

module _ (p : Reader Json) (a x t : Bytes) {v : Json} where
  one_member : Reads (read_member p) (member_text a x) (a, v) (125 ∷ t) → Reads (read_object p) (123 ∷ (member_text a x ++ 125 ∷ [])) (object (to_members ((a, v) ∷ []))) t
  unfolding peek is_blank
  one_member e =
      object_reads p (member_text a x ++ 125 ∷ []) t
      (listed_some (read_member p) 125 refl (member_text a x ++ 125 ∷ []) t refl refl (last_item (read_member p) 125 refl (length ((member_text a x ++ 125 ∷ []) ++ t)) (member_text a x) t e))

  two_members : (b y : Bytes) {w : Json} → Reads (read_member p) (member_text a x) (a, v) (44 ∷ ((member_text b y ++ 125 ∷ []) ++ t)) → Reads (read_member p) (member_text b y) (b, w) (125 ∷ t)
      → Reads (read_object p) (123 ∷ (member_text a x ++ 44 ∷ (member_text b y ++ 125 ∷ []))) (object (to_members ((a, v) ∷ (b, w) ∷ []))) t
  unfolding peek is_blank
  two_members b y e f =
      object_reads p (member_text a x ++ 44 ∷ (member_text b y ++ 125 ∷ [])) t
      (listed_some (read_member p) 125 refl (member_text a x ++ 44 ∷ (member_text b y ++ 125 ∷ [])) t refl refl
      (more_items (read_member p) 125 refl (length ((member_text a x ++ 44 ∷ (member_text b y ++ 125 ∷ [])) ++ t)) (member_text a x) (member_text b y ++ 125 ∷ []) t refl refl e
      (last_item (read_member p) 125 refl _ (member_text b y) t f)))

-- ---- the list

-- `{"major":M,"minor":N}`
version_text : ℕ → ℕ → Bytes
version_text major minor = 123 ∷ (member_text (text "major") (decimal major) ++ 44 ∷ (member_text (text "minor") (decimal minor) ++ 125 ∷ []))

unfoldable pub version_tree : ℕ → ℕ → Json
version_tree major minor = object (to_members ((text "major", number (decimal major)) ∷ (text "minor", number (decimal minor)) ∷ []))

-- `{"version":..,"ids":..}`
listing_text : ℕ → ℕ → List Bytes → Bytes
listing_text major minor ids = 123 ∷ (member_text (text "version") (version_text major minor) ++ 44 ∷ (member_text (text "ids") (ids_text ids) ++ 125 ∷ []))

unfoldable pub listing_tree : ℕ → ℕ → List Bytes → Json
listing_tree major minor ids = object (to_members ((text "version", version_tree major minor) ∷ (text "ids", array (to_items (map string ids))) ∷ []))

-- `{"trustedFacets":[..]}`
list_text : ℕ → ℕ → List Bytes → Bytes
list_text major minor ids = 123 ∷ (member_text (text "trustedFacets") (91 ∷ (listing_text major minor ids ++ 93 ∷ [])) ++ 125 ∷ [])

unfoldable pub list_tree : ℕ → ℕ → List Bytes → Json
list_tree major minor ids = object (to_members ((text "trustedFacets", array (to_items (listing_tree major minor ids ∷ []))) ∷ []))

module _ (major minor : ℕ) (ids : List Bytes) (h : major ≤ 65535) (k : minor ≤ 65535) (e : all (all is_plain_byte) ids ≡ true) where
  number_value : (d n : ℕ) (t : Bytes) → n ≤ 65535 → NumberEnd t → Reads (read_value d) (decimal n) (number (decimal n)) t
  unfolding read_value
  number_value zero n t l E = number_is _ _ (decimal n) t (number_text n l) E
  number_value (suc d) n t l E = number_is _ _ (decimal n) t (number_text n l) E

  version_value : (d : ℕ) (t : Bytes) → Reads (read_value (suc d)) (version_text major minor) (version_tree major minor) t
  unfolding read_value version_text version_tree
  version_value d t =
      object_is _ _ _ t
      (two_members (read_value d) (text "major") (decimal major) t (text "minor") (decimal minor)
      (member_reads (read_value d) (text "major") (decimal major) _ (plain_all (text "major") (unfold all is_plain_byte in refl)) (number_start (decimal major) _ (number_text major h)) (number_value d major _ h (comma_ends _)))
      (member_reads (read_value d) (text "minor") (decimal minor) _ (plain_all (text "minor") (unfold all is_plain_byte in refl)) (number_start (decimal minor) _ (number_text minor k)) (number_value d minor _ k (brace_ends _))))

  listing_value : (d : ℕ) (t : Bytes) → Reads (read_value (suc (suc d))) (listing_text major minor ids) (listing_tree major minor ids) t
  unfolding read_value listing_text listing_tree
  listing_value d t =
      object_is _ _ _ t
      (two_members (read_value (suc d)) (text "version") (version_text major minor) t (text "ids") (ids_text ids)
      (member_reads (read_value (suc d)) (text "version") (version_text major minor) _ (plain_all (text "version") (unfold all is_plain_byte in refl)) (unfold version_text peek is_blank in refl) (version_value d _))
      (member_reads (read_value (suc d)) (text "ids") (ids_text ids) _ (plain_all (text "ids") (unfold all is_plain_byte in refl)) (unfold ids_text peek is_blank in refl) (ids_value d ids _ e)))

  list_value : (d : ℕ) (t : Bytes) → Reads (read_value (suc (suc (suc (suc d))))) (list_text major minor ids) (list_tree major minor ids) t
  unfolding read_value list_text list_tree
  list_value d t =
      object_is _ _ _ t
      (one_member (read_value (suc (suc (suc d)))) (text "trustedFacets") (91 ∷ (listing_text major minor ids ++ 93 ∷ [])) t
      (member_reads (read_value (suc (suc (suc d)))) (text "trustedFacets") (91 ∷ (listing_text major minor ids ++ 93 ∷ [])) (125 ∷ t) (plain_all (text "trustedFacets") (unfold all is_plain_byte in refl)) (unfold peek is_blank in refl)
      (array_is _ _ (listing_text major minor ids ++ 93 ∷ []) (125 ∷ t)
      (array_reads (read_value (suc (suc d))) (listing_text major minor ids ++ 93 ∷ []) (125 ∷ t)
      (listed_some (read_value (suc (suc d))) 93 (not_blank 93 (omega arith)) (listing_text major minor ids ++ 93 ∷ []) (125 ∷ t) (unfold listing_text peek is_blank in refl) (unfold listing_text peek in refl)
      (last_item (read_value (suc (suc d))) 93 (not_blank 93 (omega arith)) _ (listing_text major minor ids) (125 ∷ t) (listing_value d (93 ∷ 125 ∷ t))))))))

-- ---- the text is what `render` writes

module _ (major minor : ℕ) (ids : List Bytes) where
  joined : Bytes
  joined = join_with 44 (map quoted ids)

  version_text_lem : (r : Bytes) → version_text major minor ++ r ≡ text "{\"major\":" ++ (decimal major ++ (text ",\"minor\":" ++ (decimal minor ++ 125 ∷ r)))
  unfolding version_text
  version_text_lem r =
      ap (λ (s : Bytes). text "{\"major\":" ++ s)
      (append_assoc (decimal major) (44 ∷ (member_text (text "minor") (decimal minor) ++ 125 ∷ [])) r
      ∙ ap (λ (s : Bytes). decimal major ++ (text ",\"minor\":" ++ s)) (append_assoc (decimal minor) (125 ∷ []) r))

  listing_text_lem : (r : Bytes) → listing_text major minor ids ++ r ≡ text "{\"version\":" ++ (version_text major minor ++ (text ",\"ids\":[" ++ (joined ++ (text "]}" ++ r))))
  unfolding listing_text ids_text joined
  listing_text_lem r =
      ap (λ (s : Bytes). text "{\"version\":" ++ s)
      (append_assoc (version_text major minor) (44 ∷ (member_text (text "ids") (ids_text ids) ++ 125 ∷ [])) r
      ∙ ap (λ (s : Bytes). version_text major minor ++ (text ",\"ids\":[" ++ s))
      (append_assoc (join_with 44 (map quoted ids) ++ 93 ∷ []) (125 ∷ []) r ∙ append_assoc (join_with 44 (map quoted ids)) (93 ∷ []) (125 ∷ r)))

  list_text_lem : list_text major minor ids ≡ text "{\"trustedFacets\":[" ++ (text "{\"version\":" ++ (text "{\"major\":" ++ (decimal major ++ (text ",\"minor\":" ++ (decimal minor ++ 125 ∷ (text ",\"ids\":[" ++ (joined ++ text "]}]}")))))))
  unfolding list_text
  list_text_lem =
      ap (λ (s : Bytes). text "{\"trustedFacets\":[" ++ s)
      (append_assoc (listing_text major minor ids) (93 ∷ []) (125 ∷ [])
      ∙ listing_text_lem (93 ∷ 125 ∷ [])
      ∙ ap (λ (s : Bytes). text "{\"version\":" ++ s) (version_text_lem (text ",\"ids\":[" ++ (joined ++ text "]}]}"))))

  render_text : render major minor ids ≡ text "{\"trustedFacets\":[{\"version\":{\"major\":" ++ (decimal major ++ (text ",\"minor\":" ++ (decimal minor ++ (text "},\"ids\":[" ++ (joined ++ text "]}]}")))))
  unfolding render joined
  render_text = simp append_assoc

  render_is : render major minor ids ≡ list_text major minor ids
  render_is = render_text ∙ sym list_text_lem

  -- what is written reads to the list that was meant
  pub render_reads : major ≤ 65535 → minor ≤ 65535 → all (all is_plain_byte) ids ≡ true → read_json (render major minor ids) ≡ Some (list_tree major minor ids)
  render_reads h k e = rw render_is (text_reads (list_text major minor ids) (list_tree major minor ids) (unfold list_text peek is_blank in refl) (list_value major minor ids h k e 12 []))
