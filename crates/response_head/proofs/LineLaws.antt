-- Lines between CRLFs, and one field more. Assumes nothing.
use Rattle.std.specs.Prelude.{if◌then◌else◌, Option, None, Some}
use mathlib.Core.Path.{◌≡◌, refl, sym, ap, ◌∙◌}
use mathlib.Core.Bool.{Bool, true, false, ◌&&◌, and-true, and-false, and-eq-true_iff}
use mathlib.Core.List.{List, [], ◌∷◌, ◌++◌, append-nil}
use Prim.Native.Nat.{ℕ, zero, suc, ◌+◌, ◌-◌, ◌^◌, ◌≤◌, ◌<◌}
use native.Mathlib.Omega.{arith}
use lib.ListN.{length, take, drop, length-drop}
use lib.Seq.{drop-drop, take_all, take-take, length-take-le}
use lib.Dec.{eqb}
use mir.Syntax.{w64}
use mir.Val.{Fits}
use borrow.Author.Rules.{rules}
use borrow.Author.Tests.{ne_eqb, eqb-true}
use Rattle.ascii.specs.declared.Span.{Span}
use Rattle.ascii.specs.Ascii.{Bytes, all, take_while, drop_while, join_head, same, same_no_case, lower, lower_byte, is_upper, begins_with}
use Rattle.ascii.proofs.Scan.{while_all, while_stops, scan_to, scan_from, scan_rest, scan_part}
use Rattle.ascii.proofs.ListLaws.{all_both}
use Rattle.ascii.proofs.Split.{Parts, on_first, on_first_nil, on_first_cons}
use Rattle.ascii.proofs.Compare.{same_eq}
use Rattle.response_head.specs.ResponseHead.{is_text_byte, is_blank, lines_of, Field, read_field, values_of, authorized_name, type_name, location_name}
use Rattle.response_head.specs.code.Meaning.{field_in, FieldPlaced, field, ReadsField, first_of, first_by, PlaceIs, nowhere, one, several, place_by, seen_with, Sees, no_fields, fields, TextLine, Adds}
use Rattle.response_head.specs.declared.FieldLine.{FieldLine}
use Rattle.response_head.specs.declared.Place.{Place}
use Rattle.response_head.specs.declared.Seen.{Seen}

-- ---- lines

abbrev pub crlf : Bytes
crlf = 13 ∷ 10 ∷ []

-- a head has a first line
pub lines_parts : (s : Bytes) → Parts (lines_of s)
unfolding lines_of join_head
lines_parts [] = record { first = []; others = []; is = refl }
lines_parts (b ∷ []) = record { first = b ∷ []; others = []; is = refl }
lines_parts (b ∷ c ∷ s) = go (eqb 13 b && eqb 10 c) (lines_parts (c ∷ s))
  where
    go : (u : Bool) → Parts (lines_of (c ∷ s)) → Parts (if u then [] ∷ lines_of s else join_head b (lines_of (c ∷ s)))
    go true P = record { first = []; others = lines_of s; is = refl }
    go false P = record { first = b ∷ P.first; others = P.others; is = ap (join_head b) P.is }

lines_other : (b : ℕ) (s : Bytes) → begins_with crlf (b ∷ s) ≡ false → lines_of (b ∷ s) ≡ join_head b (lines_of s)
unfolding lines_of join_head begins_with
lines_other b [] e = refl
lines_other b (c ∷ s) e = let f : (eqb 13 b && eqb 10 c) ≡ false = rw and-true at e in rw f

crlf_is : (s : Bytes) → begins_with crlf s ≡ true → s ≡ 13 ∷ 10 ∷ drop 2 s
unfolding begins_with
crlf_is [] e = let z : ◌≡◌ {A = ℕ} 0 1 = cc in absurd (omega arith)
crlf_is (b ∷ []) e = let z : ◌≡◌ {A = ℕ} 0 1 = cc (and-false (eqb 13 b)) in absurd (omega arith)
crlf_is (b ∷ c ∷ s) e =
    let p = (and-eq-true_iff (eqb 13 b) (eqb 10 c && true)).0 e in
    let q = (and-eq-true_iff (eqb 10 c) true).0 p.1 in
    rw (← eqb-true 13 b p.0, ← eqb-true 10 c q.0)

lines_here : (s : Bytes) → begins_with crlf s ≡ true → lines_of s ≡ [] ∷ lines_of (drop 2 s)
unfolding lines_of
lines_here s e = ap lines_of (crlf_is s e)

no_crlf : (f : ℕ → Bool) → f 13 ≡ false → (b : ℕ) (s : Bytes) → f b ≡ true → begins_with crlf (b ∷ s) ≡ false
unfolding begins_with
no_crlf f h b s e = rw (ne_eqb 13 b (λ k. let z : ◌≡◌ {A = ℕ} 0 1 = cc (sym h ∙ ap f k ∙ e) in omega arith))

lines_while : (f : ℕ → Bool) → f 13 ≡ false → (l : Bytes) → lines_of l ≡ on_first (take_while f l) (lines_of (drop_while f l))
unfolding take_while drop_while
lines_while f h [] = sym (on_first_nil (lines_of []) (lines_parts []))
lines_while f h (b ∷ l) = go (f b) refl (lines_while f h l)
  where
    go : (u : Bool) → f b ≡ u → lines_of l ≡ on_first (take_while f l) (lines_of (drop_while f l))
        → lines_of (b ∷ l) ≡ on_first (if u then b ∷ take_while f l else []) (lines_of (if u then drop_while f l else b ∷ l))
    go true e ih = lines_other b l (no_crlf f h b l e) ∙ ap (join_head b) ih ∙ on_first_cons b (take_while f l) (lines_of (drop_while f l))
    go false e ih = sym (on_first_nil (lines_of (b ∷ l)) (lines_parts (b ∷ l)))

-- the first line is not closed by CRLF, or it holds another byte
pub data Cut : List Bytes → Type 0 where
  unclosed : {l : Bytes} → Cut (l ∷ [])
  other_byte : {l : Bytes} {ls : List Bytes} → all is_text_byte l ≡ false → Cut (l ∷ ls)

all_other : (f : ℕ → Bool) (p : Bytes) (b : ℕ) (q : Bytes) → f b ≡ false → all f (p ++ (b ∷ q)) ≡ false
unfolding all
all_other f p b q e = rw (all_both f p (b ∷ q), e, and-false (all f p))

cut_lines : (p t : Bytes) → ((b : ℕ) (m : Bytes) → t ≡ b ∷ m → is_text_byte b ≡ false) → begins_with crlf t ≡ false → Cut (on_first p (lines_of t))
unfolding on_first join_head
cut_lines p [] h e = unfold lines_of in unclosed
cut_lines p (b ∷ m) h e =
    let P = lines_parts m in
    let z : on_first p (lines_of (b ∷ m)) ≡ (p ++ (b ∷ P.first)) ∷ P.others = rw (lines_other b m e, P.is) in
    rw z (other_byte (all_other is_text_byte p b P.first (h b m refl)))

text_13 : is_text_byte 13 ≡ false
unfolding is_text_byte is_blank
text_13 = refl

module _ (s : Bytes) (at : ℕ) {end : ℕ} (e : end ≡ at + length (take_while is_text_byte (drop at s))) {q : Bool} (g : q ≡ begins_with crlf (take (length s - end) (drop end s))) where
  pub begins_is : q ≡ begins_with crlf (drop end s)
  begins_is = g ∙ rw (take_all (length s - end) (drop end s) (omega (arith, length-drop end s)))

  line_lines : lines_of (drop at s) ≡ on_first (take (end - at) (drop at s)) (lines_of (drop end s))
  line_lines = rw (scan_part is_text_byte s at end e, scan_rest is_text_byte s at end e) (lines_while is_text_byte text_13 (drop at s))

  pub line_cut : q ≡ false → Cut (lines_of (drop at s))
  line_cut f =
      rw line_lines
      (cut_lines (take (end - at) (drop at s)) (drop end s) (λ b m k. while_stops is_text_byte (drop at s) b m (sym (scan_rest is_text_byte s at end e) ∙ k)) (sym begins_is ∙ f))

  pub line_whole : q ≡ true → lines_of (drop at s) ≡ take (end - at) (drop at s) ∷ lines_of (drop (end + 2) s)
  unfolding on_first
  line_whole f = line_lines ∙ rw (lines_here (drop end s) (sym begins_is ∙ f), drop-drop 2 end s, append-nil)

  pub line_text : at ≤ length s → TextLine s at end
  line_text h = record {
    low = scan_from is_text_byte s at end e;
    high = scan_to is_text_byte s at end e h;
    is = rw (scan_part is_text_byte s at end e) (while_all is_text_byte (drop at s));
  }

  pub line_is : at < length s → TextLine s at end
  line_is h = line_text (omega arith)

  -- the CRLF is in the text
  pub line_room : q ≡ true → end + 2 ≤ length s
  line_room f = omega (arith, ap length (crlf_is (drop end s) (sym begins_is ∙ f)), length-drop end s)

  pub line_fits : q ≡ true → length s < 2 ^ 64 → Fits w64 (end + 2)
  line_fits f l = record { fits = omega (arith, line_room f) }

pub line_high : (s : Bytes) (at end : ℕ) → end ≡ at + length (take_while is_text_byte (drop at s)) → at < length s → end ≤ length s
line_high s at end e h = scan_to is_text_byte s at end e (omega arith)

-- ---- one field more

part_of : {A : Type 0} (n a m : ℕ) (l : List A) → a + n ≤ m → take n (drop a (take m l)) ≡ take n (drop a l)
part_of n zero m l h = take-take n m l (omega arith)
part_of n (suc a) zero l h = absurd (omega arith)
part_of n (suc a) (suc m) [] h = refl
part_of n (suc a) (suc m) (x ∷ l) h = part_of n a m l (omega arith)

module _ (n : Bytes) (f : Field) where
  values_hit : same_no_case f.name n ≡ true → (fs : List Field) → values_of n (fs ++ (f ∷ [])) ≡ values_of n fs ++ (f.value ∷ [])
  unfolding values_of
  values_hit e [] = rw e
  values_hit e (g ∷ fs) = go (same_no_case g.name n) (values_hit e fs)
    where
      go : (u : Bool) → values_of n (fs ++ (f ∷ [])) ≡ values_of n fs ++ (f.value ∷ [])
          → (if u then g.value ∷ values_of n (fs ++ (f ∷ [])) else values_of n (fs ++ (f ∷ []))) ≡ (if u then g.value ∷ values_of n fs else values_of n fs) ++ (f.value ∷ [])
      go true ih = rw ih
      go false ih = ih

  values_miss : same_no_case f.name n ≡ false → (fs : List Field) → values_of n (fs ++ (f ∷ [])) ≡ values_of n fs
  unfolding values_of
  values_miss e [] = rw e
  values_miss e (g ∷ fs) = rw (values_miss e fs)

first_more : (p : Bytes → Bool) (vs : List Bytes) (v : Bytes) → first_of p (vs ++ (v ∷ [])) ≡ first_by (first_of p vs) (p v)
unfolding first_of first_by
first_more p [] v = refl
first_more p (w ∷ vs) v = refl

place_more : {s : Bytes} {vs : List Bytes} {x : Place} {v : Bytes} (p : Span) → p.from ≤ p.to → p.to ≤ length s → take (p.to - p.from) (drop p.from s) ≡ v
    → PlaceIs s vs x → PlaceIs s (vs ++ (v ∷ [])) (place_by x p)
unfolding place_by
place_more p h k e nowhere = one h k e
place_more p h k e (one l m f) = several
place_more p h k e several = several

-- the three names differ
module _ (n a b : Bytes) where
  other_name : same (lower a) (lower b) ≡ false → same_no_case n a ≡ true → same_no_case n b ≡ false
  unfolding same_no_case
  other_name d e = rw (same_eq (lower n) (lower a) e) d

authorized_typed : same (lower authorized_name) (lower type_name) ≡ false
unfolding same lower lower_byte is_upper
authorized_typed = refl

authorized_location : same (lower authorized_name) (lower location_name) ≡ false
unfolding same lower lower_byte is_upper
authorized_location = refl

typed_location : same (lower type_name) (lower location_name) ≡ false
unfolding same lower lower_byte is_upper
typed_location = refl

module _ {s : Bytes} {fs : List Field} {x : Seen} (S : Sees s fs x) (f : Field) (p : Span) (h : p.from ≤ p.to) (k : p.to ≤ length s) (v : take (p.to - p.from) (drop p.from s) ≡ f.value) where
  sees_authorized : same_no_case f.name authorized_name ≡ true → Sees s (fs ++ (f ∷ [])) (seen_with f.name f.value p x)
  unfolding seen_with
  sees_authorized a =
      let b = other_name f.name authorized_name type_name authorized_typed a in
      let c = other_name f.name authorized_name location_name authorized_location a in
      rw a (record {
        authorized_is = rw (values_hit authorized_name f a fs, first_more, S.authorized_is);
        typed_is = rw (values_miss type_name f b fs, S.typed_is);
        location_is = rw (values_miss location_name f c fs) S.location_is;
      })

  module _ (a : same_no_case f.name authorized_name ≡ false) where
    sees_typed : same_no_case f.name type_name ≡ true → Sees s (fs ++ (f ∷ [])) (seen_with f.name f.value p x)
    unfolding seen_with
    sees_typed b =
        let c = other_name f.name type_name location_name typed_location b in
        rw (a, b) (record {
          authorized_is = rw (values_miss authorized_name f a fs, S.authorized_is);
          typed_is = rw (values_hit type_name f b fs, first_more, S.typed_is);
          location_is = rw (values_miss location_name f c fs) S.location_is;
        })

    module _ (b : same_no_case f.name type_name ≡ false) where
      sees_location : same_no_case f.name location_name ≡ true → Sees s (fs ++ (f ∷ [])) (seen_with f.name f.value p x)
      unfolding seen_with
      sees_location c =
          rw (a, b, c) (record {
            authorized_is = rw (values_miss authorized_name f a fs, S.authorized_is);
            typed_is = rw (values_miss type_name f b fs, S.typed_is);
            location_is = rw (values_hit location_name f c fs) (place_more p h k v S.location_is);
          })

      sees_other : same_no_case f.name location_name ≡ false → Sees s (fs ++ (f ∷ [])) (seen_with f.name f.value p x)
      unfolding seen_with
      sees_other c =
          rw (a, b, c) (record {
            authorized_is = rw (values_miss authorized_name f a fs, S.authorized_is);
            typed_is = rw (values_miss type_name f b fs, S.typed_is);
            location_is = rw (values_miss location_name f c fs) S.location_is;
          })

  sees_more : Sees s (fs ++ (f ∷ [])) (seen_with f.name f.value p x)
  sees_more = go (same_no_case f.name authorized_name) (same_no_case f.name type_name) (same_no_case f.name location_name) refl refl refl
    where
      go : (u v w : Bool) → same_no_case f.name authorized_name ≡ u → same_no_case f.name type_name ≡ v → same_no_case f.name location_name ≡ w
          → Sees s (fs ++ (f ∷ [])) (seen_with f.name f.value p x)
      go true v w a b c = sees_authorized a
      go false true w a b c = sees_typed a b
      go false false true a b c = sees_location a b c
      go false false false a b c = sees_other a b c

record FieldInside (l : Bytes) (p : FieldLine) : Type 0 where
  name_end : p.colon ≤ length l
  low : p.value.from ≤ p.value.to
  high : p.value.to ≤ length l

field_inside : {l : Bytes} {p : FieldLine} → FieldPlaced l (Some p) → FieldInside l p
field_inside (field h k m) = record { name_end = h; low = k; high = m }

module _ {s : Bytes} {at end : ℕ} (L : TextLine s at end) {q : Option FieldLine} (R : ReadsField (take (end - at) (drop at s)) q) where
  line_length : length (take (end - at) (drop at s)) ≡ end - at
  line_length = length-take-le (end - at) (drop at s) (omega (arith, length-drop at s, L.high))

  pub adds_none : (x : Seen) → q ≡ None → Adds s at end x None
  unfolding field_in
  adds_none x k = record { is = λ fs S. rw (← R.is, k) no_fields }

  module _ {p : FieldLine} (k : q ≡ Some p) where
    Q : ReadsField (take (end - at) (drop at s)) (Some p)
    Q = rw k at R

    I : FieldInside (take (end - at) (drop at s)) p
    I = field_inside Q.places

    name_at : at + p.colon ≤ end
    name_at = omega (arith, I.name_end, line_length, L.low)

    value_at : at + p.value.to ≤ end
    value_at = omega (arith, I.high, line_length, L.low)

    pub adds_name : at + p.colon ≤ length s
    adds_name = omega (arith, name_at, L.high)

    pub adds_value : at + p.value.to ≤ length s
    adds_value = omega (arith, value_at, L.high)

    pub adds_order : at + p.value.from ≤ at + p.value.to
    adds_order = omega (arith, I.low)

    pub adds_fits_name : length s < 2 ^ 64 → Fits w64 (at + p.colon)
    adds_fits_name h = record { fits = omega (arith, adds_name) }

    pub adds_fits_from : length s < 2 ^ 64 → Fits w64 (at + p.value.from)
    adds_fits_from h = record { fits = omega (arith, adds_value, I.low) }

    pub adds_fits_to : length s < 2 ^ 64 → Fits w64 (at + p.value.to)
    adds_fits_to h = record { fits = omega (arith, adds_value) }

    pub name_is : take (at + p.colon - at) (drop at s) ≡ take p.colon (take (end - at) (drop at s))
    name_is = let z : at + p.colon - at ≡ p.colon = omega arith in rw z (sym (take-take p.colon (end - at) (drop at s) (omega (arith, name_at))))

    pub value_is : take (at + p.value.to - (at + p.value.from)) (drop (at + p.value.from) s) ≡ take (p.value.to - p.value.from) (drop p.value.from (take (end - at) (drop at s)))
    value_is =
        let z : at + p.value.to - (at + p.value.from) ≡ p.value.to - p.value.from = omega arith in
        rw z (sym (part_of (p.value.to - p.value.from) p.value.from (end - at) (drop at s) (omega (arith, value_at, I.low)) ∙ rw (drop-drop p.value.from at s)))

    pub adds_one : (x : Seen) {v : Bytes} {y : Seen} → v ≡ take (at + p.value.to - (at + p.value.from)) (drop (at + p.value.from) s)
        → y ≡ seen_with (take (at + p.colon - at) (drop at s)) v (record { from = at + p.value.from; to = at + p.value.to }) x → Adds s at end x (Some y)
    adds_one x {v} {y} w e = record {
      is = λ fs S.
          let f : Field = record { name = take p.colon (take (end - at) (drop at s)); value = take (p.value.to - p.value.from) (drop p.value.from (take (end - at) (drop at s))) } in
          let r : read_field (take (end - at) (drop at s)) ≡ Some f = sym (unfold field_in in Q.is) in
          let z : y ≡ seen_with f.name f.value (record { from = at + p.value.from; to = at + p.value.to }) x = e ∙ rw (name_is, w, value_is) in
          rw (r, z) (fields (sees_more S f (record { from = at + p.value.from; to = at + p.value.to }) adds_order adds_value value_is));
    }

pub ruleset line_laws = (line_is, line_fits, line_high, adds_none, adds_name, adds_value, adds_order, adds_fits_name, adds_fits_from, adds_fits_to, adds_one, rules)
