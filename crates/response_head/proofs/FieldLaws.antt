-- One status line, one field line, one field more. Assumes nothing.
use Rattle.std.specs.Prelude.{if◌then◌else◌, Option, None, Some, unwrap_or}
use mathlib.Core.Path.{◌≡◌, refl, sym, ◌∙◌}
use mathlib.Core.Bool.{Bool, true, false, ◌&&◌, not, and-true, and-false, and-eq-true_iff}
use mathlib.Core.List.{[], ◌∷◌, ◌++◌}
use Prim.Native.Nat.{ℕ, ◌+◌, ◌-◌, ◌≤◌, ◌<◌}
use native.Mathlib.Omega.{arith}
use lib.ListN.{length, get_or, take, drop, drop_of_length-le, take-append-drop}
use lib.Seq.{drop-cons, drop-drop, take-take, length-take-le}
use lib.Dec.{eqb, leb}
use borrow.Author.Rules.{rules}
use borrow.Author.Tests.{ne_eqb, eqb-true, leb-true}
use Rattle.ascii.specs.declared.Span.{Span}
use Rattle.ascii.specs.Ascii.{Bytes, ◌when◌, all, is_empty, take_while, drop_while, among, is_digit, is_letter, is_upper, same, same_no_case, begins_with, begins_by, text, number16}
use Rattle.ascii.proofs.Bytes.{implies, each, passes, digit_small, letter_small}
use Rattle.ascii.proofs.Compare.{by_short}
use Rattle.ascii.proofs.ListLaws.{all_append, all_weaker, all_drop, empty_is, empty_not}
use Rattle.ascii.proofs.Scan.{while_all, while_rest, while_part, while_length, scan_to, scan_rest}
use Rattle.response_head.specs.ResponseHead.{is_blank, is_text_byte, is_tchar, is_other, fits_byte, fits_form, status_form, read_status, trim_end, trim, Field, field_of, read_field, is_list_type, is_true, authorized_name, type_name, location_name}
use Rattle.response_head.specs.code.Meaning.{Trims, field_in, no_field, field, ReadsField, first_by, place_by, seen_with}
use Rattle.response_head.specs.declared.Place.{Place}
use Rattle.response_head.specs.declared.Place.TheVariants.{Nowhere, At, Several}
use Rattle.response_head.specs.declared.Seen.{Seen}

-- ---- lines are of text bytes

digit_text : (b : ℕ) → is_digit b ≡ true → is_text_byte b ≡ true
unfolding is_text_byte is_blank is_digit
digit_text = passes is_digit is_text_byte (each 256 (λ b. implies (is_digit b) (is_text_byte b)) tt) digit_small

-- no number past a byte is a tchar
among_small : (marks : Bytes) (b : ℕ) → 256 ≤ b → all (λ c. leb c 255) marks ≡ true → among marks b ≡ false
unfolding all
among_small [] b h e = refl
among_small (c ∷ marks) b h e =
    let p = (and-eq-true_iff (leb c 255) (all (λ k. leb k 255) marks)).0 e in
    rw (ne_eqb b c (λ k. omega (arith, leb-true c 255 p.0)), among_small marks b h p.1)

tchar_small : (b : ℕ) → 256 ≤ b → is_tchar b ≡ false
unfolding is_tchar all
tchar_small b h = rw (among_small (text "!#$%&'*+-.^_`|~") b h refl, digit_small b h, letter_small b h)

tchar_text : (b : ℕ) → is_tchar b ≡ true → is_text_byte b ≡ true
unfolding is_text_byte is_blank is_tchar is_letter is_upper is_digit
tchar_text = passes is_tchar is_text_byte (each 256 (λ b. implies (is_tchar b) (is_text_byte b)) tt) tchar_small

byte_text : (p b : ℕ) → is_text_byte p ≡ true → fits_byte p b ≡ true → is_text_byte b ≡ true
unfolding fits_byte
byte_text p b t = go (eqb p 48)
  where
    go : (u : Bool) → (if u then is_digit b else eqb b p) ≡ true → is_text_byte b ≡ true
    go true e = digit_text b e
    go false e = rw (eqb-true b p e) t

form_text : (p t : Bytes) → all is_text_byte p ≡ true → fits_form p t ≡ true → all is_text_byte (take (length p) t) ≡ true
unfolding all begins_by
form_text [] t h e = refl
form_text (b ∷ p) [] h e = let z : ◌≡◌ {A = ℕ} 0 1 = cc in absurd (omega arith)
form_text (b ∷ p) (c ∷ t) h e =
    let k = (and-eq-true_iff (is_text_byte b) (all is_text_byte p)).0 h in
    let f = (and-eq-true_iff (fits_byte b c) (fits_form p t)).0 e in
    rw (byte_text b c k.0 f.0, form_text p t k.1 f.1)

status_text : all is_text_byte status_form ≡ true
unfolding all is_text_byte is_blank
status_text = refl

-- a line that holds another byte is neither
pub no_status : (l : Bytes) → all is_text_byte l ≡ false → read_status l ≡ None
unfolding read_status
no_status l e = go (fits_form status_form l) (all is_text_byte (drop 13 l)) refl refl
  where
    go : (u v : Bool) → fits_form status_form l ≡ u → all is_text_byte (drop 13 l) ≡ v → (if u && v then number16 (take 3 (drop 9 l)) else None) ≡ None
    go false v f g = refl
    go true false f g = refl
    go true true f g =
        let h : all is_text_byte l ≡ true = rw take-append-drop at (all_append is_text_byte (take 13 l) (drop 13 l) (form_text status_form l status_text f) g) in
        let z : ◌≡◌ {A = ℕ} 0 1 = cc in absurd (omega arith)

colon_text : (r : Bytes) → begins_with (58 ∷ []) r ≡ true → all is_text_byte (drop 1 r) ≡ true → all is_text_byte r ≡ true
unfolding all begins_with is_text_byte is_blank
colon_text [] b e = refl
colon_text (c ∷ r) b e = let z : 58 ≡ c = eqb-true 58 c (sym (and-true (eqb 58 c)) ∙ b) in rw (← z, e)

pub no_field_line : (l : Bytes) → all is_text_byte l ≡ false → read_field l ≡ None
unfolding read_field field_of
no_field_line l e = go (record { name = take_while is_tchar l; value = trim (drop 1 (drop_while is_tchar l)) }) (not (is_empty (take_while is_tchar l))) (begins_with (text ":") (drop_while is_tchar l)) (all is_text_byte (drop 1 (drop_while is_tchar l))) refl refl
  where
    go : (x : Field) (u v w : Bool) → begins_with (text ":") (drop_while is_tchar l) ≡ v → all is_text_byte (drop 1 (drop_while is_tchar l)) ≡ w → (x when (u && v && w)) ≡ None
    go x false v w f g = refl
    go x true false w f g = refl
    go x true true false f g = refl
    go x true true true f g =
        let n : all is_text_byte (take_while is_tchar l) ≡ true = all_weaker is_tchar is_text_byte tchar_text (take_while is_tchar l) (while_all is_tchar l) in
        let h : all is_text_byte (take_while is_tchar l ++ drop_while is_tchar l) ≡ true = all_append is_text_byte (take_while is_tchar l) (drop_while is_tchar l) n (colon_text (drop_while is_tchar l) f g) in
        let k : take_while is_tchar l ++ drop_while is_tchar l ≡ l = rw (while_part is_tchar l, while_rest is_tchar l) at (take-append-drop (length (take_while is_tchar l)) l) in
        let z : ◌≡◌ {A = ℕ} 0 1 = cc (rw k at h) in absurd (omega arith)

-- ---- the status line

module _ (l : Bytes) where
  pub status_short : {n : ℕ} → length l < n → n ≤ 13 → None ≡ read_status l
  unfolding read_status
  status_short h k = rw (← by_short fits_byte status_form l (omega arith))

  module _ {q : Bool} (e : q ≡ fits_form (text "HTTP/0.0 000 ") l) where
    pub status_bad : q ≡ false → None ≡ read_status l
    unfolding read_status
    status_bad f = rw (← e, f)

    pub status_is : {r : Option ℕ} → q ≡ true → all is_text_byte l ≡ true → r ≡ number16 (take 3 (drop 9 l)) → r ≡ read_status l
    unfolding read_status
    status_is f t g = g ∙ rw (← e, f, all_drop is_text_byte 13 l t)

-- ---- one field line

module _ (l : Bytes) (t : all is_text_byte l ≡ true) {c : ℕ} (e : c ≡ 0 + length (take_while is_tchar l)) where
  name_length : c ≡ length (take_while is_tchar l)
  name_length = omega (arith, e)

  rest_is : drop_while is_tchar l ≡ drop c l
  rest_is = rw name_length (sym (while_rest is_tchar l))

  pub field_nameless : c ≡ 0 → ReadsField l None
  unfolding field_in read_field field_of
  field_nameless h = record {
    is = rw (empty_is (take_while is_tchar l) (sym name_length ∙ h));
    places = no_field;
  }

  pub field_ends : length l ≤ c → ReadsField l None
  unfolding field_in read_field field_of begins_with
  field_ends h = record {
    is = rw (rest_is, drop_of_length-le l h, and-false (not (is_empty (take_while is_tchar l))));
    places = no_field;
  }

  module _ (h : c < length l) where
    pub field_other : (get_or l c 0 ≡ 58 → ⊥) → ReadsField l None
    unfolding field_in read_field field_of begins_with
    field_other n = record {
      is = rw (rest_is, drop-cons l c 0 h, ne_eqb 58 (get_or l c 0) (λ k. n (sym k)), and-false (not (is_empty (take_while is_tchar l))));
      places = no_field;
    }

    module _ {from : ℕ} (g : from ≡ c + 1 + length (take_while is_blank (drop (c + 1) l))) where
      pub field_from : from ≤ length l
      field_from = scan_to is_blank l (c + 1) from g (omega arith)

      pub field_is : {to : ℕ} → (c ≡ 0 → ⊥) → get_or l c 0 ≡ 58 → Trims l from to → ReadsField l (Some (record { colon = c; value = record { from = from; to = to } }))
      unfolding field_in read_field field_of begins_with trim
      field_is n k R = record {
        is =
            let a : take c l ≡ take_while is_tchar l = rw name_length (while_part is_tchar l) in
            let b : drop_while is_blank (drop (c + 1) l) ≡ drop from l = sym (scan_rest is_blank l (c + 1) from g) in
            let f : is_empty (take_while is_tchar l) ≡ false = empty_not (take_while is_tchar l) (λ z. n (name_length ∙ z)) in
            let d : begins_with (58 ∷ []) (drop c l) ≡ true = rw (drop-cons l c 0 h, k) in
            sym (rw (f, rest_is, d, drop-drop 1 c l, all_drop is_text_byte (c + 1) l t, b, ← R.is, ← a));
        places = field (omega arith) R.low R.high;
      }

-- ---- the content type

module _ (v : Bytes) (d : ℕ) {end : ℕ} (e : end ≡ 0 + length (take_while (is_other d) v)) where
  pub type_end : end ≤ length v
  type_end = omega (arith, e, while_length (is_other d) v)

  part_is : take end v ≡ take_while (is_other d) v
  part_is = let z : end ≡ length (take_while (is_other d) v) = omega (arith, e) in rw z (while_part (is_other d) v)

  -- places as the code's parts give them
  module _ {to : ℕ} (R : Trims (take (end - 0) v) 0 to) where
    whole : end - 0 ≡ end
    whole = omega arith

    type_low : to ≤ end
    type_low = omega (arith, R.high, length-take-le (end - 0) v (omega (arith, type_end)))

    pub type_to : to ≤ length v
    type_to = omega (arith, type_low, type_end)

    pub type_is : {r : Bool} → d ≡ 59 → r ≡ same_no_case (take (to - 0) v) (text "application/fido.trusted-apps+json") → r ≡ is_list_type v
    unfolding is_list_type
    type_is k f =
        let a : take (to - 0) v ≡ take (to - 0) (take (end - 0) v) = sym (take-take (to - 0) (end - 0) v (omega (arith, type_low))) in
        let b : take (to - 0) (take (end - 0) v) ≡ trim_end (take (end - 0) v) = R.is in
        f ∙ rw (a, b, whole, part_is, k)

-- ---- one field more

pub first_is : (x : Option Bool) (q : Bool) {r : Bool} → r ≡ unwrap_or x q → Some r ≡ first_by x q
unfolding first_by
first_is x q e = rw e

module _ {x : Place} (p : Span) where
  pub place_new : x ≡ Nowhere → At p ≡ place_by x p
  unfolding place_by
  place_new e = rw e

  pub place_second : {q : Span} → x ≡ At q → Several ≡ place_by x p
  unfolding place_by
  place_second e = rw e

  pub place_several : x ≡ Several → Several ≡ place_by x p
  unfolding place_by
  place_several e = rw e

module _ (name v : Bytes) (p : Span) (x : Seen) {a : Bool} (e : a ≡ same_no_case name authorized_name) where
  pub seen_authorized : {q : Bool} {y : Option Bool} → a ≡ true → q ≡ same v (text "true") → y ≡ first_by x.authorized q
      → record { authorized = y; typed = x.typed; location = x.location } ≡ seen_with name v p x
  unfolding seen_with is_true
  seen_authorized f g h = rw (← e, f, h, g)

  module _ {b : Bool} (f : a ≡ false) (g : b ≡ same_no_case name type_name) where
    pub seen_typed : {q : Bool} {y : Option Bool} → b ≡ true → q ≡ is_list_type v → y ≡ first_by x.typed q
        → record { authorized = x.authorized; typed = y; location = x.location } ≡ seen_with name v p x
    unfolding seen_with
    seen_typed h k l = rw (← e, f, ← g, h, l, k)

    module _ {c : Bool} (h : b ≡ false) (k : c ≡ same_no_case name location_name) where
      pub seen_location : {y : Place} → c ≡ true → y ≡ place_by x.location p
          → record { authorized = x.authorized; typed = x.typed; location = y } ≡ seen_with name v p x
      unfolding seen_with
      seen_location l m = rw (← e, f, ← g, h, ← k, l, m)

      pub seen_other : c ≡ false → x ≡ seen_with name v p x
      unfolding seen_with
      seen_other l = rw (← e, f, ← g, h, ← k, l)

pub ruleset field_laws = (status_short, status_bad, status_is, field_nameless, field_ends, field_other, field_from, field_is, type_end, type_to, type_is, first_is, place_new, place_second, place_several, seen_authorized, seen_typed, seen_location, seen_other, rules)

-- for a return: its law alone, so that a search that finds nothing ends
pub ruleset type_laws = (type_is)

pub ruleset colon_laws = (field_other)
