-- Field after field, and the whole head. Assumes nothing.
use Rattle.std.specs.Prelude.{if◌then◌else◌, Option, None, Some, unwrap_or}
use mathlib.Core.Path.{◌≡◌, refl, sym, ap, ◌∙◌}
use mathlib.Core.Bool.{Bool, true, false, ◌&&◌, and-false}
use mathlib.Core.List.{List, [], ◌∷◌, ◌++◌, append-nil, append_assoc}
use Prim.Native.Nat.{ℕ, ◌+◌, ◌-◌, ◌^◌, ◌≤◌, ◌<◌}
use native.Mathlib.Omega.{arith}
use lib.ListN.{length, take, drop, length-drop, drop_of_length-le}
use lib.Seq.{length-take-le}
use lib.Dec.{eqb}
use mir.Syntax.{w64}
use mir.Val.{Fits}
use borrow.Author.Rules.{rules}
use borrow.Author.Tests.{le-leb, lt-leb}
use Rattle.ascii.specs.declared.Span.{Span}
use Rattle.ascii.specs.Ascii.{Bytes, ◌>>=◌, ◌when◌, all, is_empty, take_while, join_head, between, begins_with}
use Rattle.ascii.proofs.ListLaws.{filled}
use Rattle.ascii.proofs.Split.{Parts}
use Rattle.response_head.specs.ResponseHead.{is_text_byte, lines_of, read_status, Field, read_field, is_end, read_fields, values_of, first_passes, is_true, is_list_type, only, authorized_name, type_name, location_name, head_of, read_lines, read_head}
use Rattle.response_head.specs.code.Meaning.{first_of, PlaceIs, nowhere, one, several, Sees, FieldsRead, no_fields, fields, Adds, head_in, no_head, an_answer, a_redirect, ReadsHead, Makes}
use Rattle.response_head.specs.declared.Place.TheVariants.{Nowhere, At, Several}
use Rattle.response_head.specs.declared.Seen.{Seen}
use Rattle.response_head.specs.declared.Head.{Head as Reading}
use Rattle.response_head.specs.declared.Head.TheVariants.{Redirect, Answer}
use Rattle.response_head.proofs.FieldLaws.{no_status, no_field_line}
use Rattle.response_head.proofs.LineLaws.{crlf, lines_parts, Cut, unclosed, other_byte, line_cut, line_whole, line_text, line_room, line_is, line_fits, line_high}

-- ---- what no lines are

not_empty : (l : Bytes) → all is_text_byte l ≡ false → is_empty l ≡ false
unfolding all
not_empty [] e = let z : ◌≡◌ {A = ℕ} 0 1 = cc in absurd (omega arith)
not_empty (b ∷ l) e = refl

bind_none : {A B : Type 0} (o : Option A) → ◌≡◌ {A = Option B} (o >>= λ a. None) None
bind_none None = refl
bind_none (Some a) = refl

pub cut_fields : {ls : List Bytes} → Cut ls → read_fields ls ≡ None
unfolding read_fields is_end
cut_fields (unclosed {l = l}) = go (is_empty l)
  where
    go : (u : Bool) → (if u then ([] when is_end []) else (read_field l >>= λ f. read_fields [] >>= λ fs. Some (f ∷ fs))) ≡ None
    go true = refl
    go false = bind_none (read_field l)
cut_fields (other_byte {l = l} e) = rw (not_empty l e, no_field_line l e)

pub cut_lines : {ls : List Bytes} → Cut ls → read_lines ls ≡ None
unfolding read_lines read_fields
cut_lines (unclosed {l = l}) = bind_none (read_status l)
cut_lines (other_byte {l = l} e) = rw (no_status l e)

-- something stands behind
not_end : (t : Bytes) → (length t ≡ 0 → ⊥) → is_end (lines_of t) ≡ false
unfolding lines_of is_end join_head
not_end [] n = absurd (n refl)
not_end (b ∷ []) n = refl
not_end (b ∷ c ∷ t) n = go (eqb 13 b && eqb 10 c) (lines_parts t) (lines_parts (c ∷ t))
  where
    go : (u : Bool) → Parts (lines_of t) → Parts (lines_of (c ∷ t)) → is_end (if u then [] ∷ lines_of t else join_head b (lines_of (c ∷ t))) ≡ false
    go true P Q = rw P.is
    go false P Q = rw Q.is

-- ---- field after field

record ReadsTo (s : Bytes) (o : Option (List Field)) (x : Seen) : Type 0 where
  all_of : List Field
  is : o ≡ Some all_of
  sees : Sees s all_of x

reads_to : {s : Bytes} {o : Option (List Field)} {x : Seen} → FieldsRead s o (Some x) → ReadsTo s o x
reads_to (fields {fs = fs} S) = record { all_of = fs; is = refl; sees = S }

reads_none : {s : Bytes} {o : Option (List Field)} → FieldsRead s o None → o ≡ None
reads_none no_fields = refl

-- x stands for the fields before a place; what is left decides
pub record Gathering (s : Bytes) (goal : Option (List Field)) (x : Seen) (at : ℕ) : Type 0 where
  pub before : List Field
  pub sees : Sees s before x
  pub is : (read_fields (lines_of (drop at s)) >>= λ gs. Some (before ++ gs)) ≡ goal

bind_same : {A : Type 0} (o : Option A) → (o >>= λ a. Some a) ≡ o
bind_same None = refl
bind_same (Some a) = refl

pub gather_starts : (s : Bytes) (from : ℕ) → Gathering s (read_fields (lines_of (drop from s))) (record { authorized = None; typed = None; location = Nowhere }) from
unfolding values_of first_of
gather_starts s from = record {
  before = [];
  sees = record { authorized_is = refl; typed_is = refl; location_is = nowhere };
  is = bind_same (read_fields (lines_of (drop from s)));
}

module _ {s : Bytes} {goal : Option (List Field)} {x : Seen} {at : ℕ} (G : Gathering s goal x at) where
  stops : read_fields (lines_of (drop at s)) ≡ None → FieldsRead s goal None
  stops e = let z : goal ≡ None = sym G.is ∙ rw e in rw z no_fields

  pub gather_out : length s ≤ at → FieldsRead s goal None
  unfolding lines_of read_fields is_end
  gather_out h = stops (rw (drop_of_length-le s h))

  module _ {end : ℕ} (e : end ≡ at + length (take_while is_text_byte (drop at s))) {q : Bool} (g : q ≡ begins_with crlf (take (length s - end) (drop end s))) where
    pub gather_cut : q ≡ false → FieldsRead s goal None
    gather_cut f = stops (cut_fields (line_cut s at e g f))

    module _ (f : q ≡ true) where
      empty_line : end ≡ at → read_fields (lines_of (drop at s)) ≡ ([] when is_end (lines_of (drop (end + 2) s)))
      unfolding read_fields
      empty_line h = let z : end - at ≡ 0 = omega arith in rw (line_whole s at e g f, z)

      pub gather_last : end ≡ at → length s - end ≡ 2 → FieldsRead s goal (Some x)
      unfolding lines_of is_end
      gather_last h k =
          let l : length s ≤ end + 2 = omega arith in
          let d : drop (end + 2) s ≡ [] = drop_of_length-le s l in
          let z : goal ≡ Some G.before = sym G.is ∙ rw (empty_line h, d, append-nil) in
          rw z (fields G.sees)

      pub gather_behind : end ≡ at → (length s - end ≡ 2 → ⊥) → FieldsRead s goal None
      gather_behind h k = stops (empty_line h ∙ rw (not_end (drop (end + 2) s) (λ z. k (omega (arith, length-drop (end + 2) s, line_room s at e g f)))))

      module _ (h : at < length s) (n : end ≡ at → ⊥) where
        field_line : read_fields (lines_of (drop at s)) ≡ (read_field (take (end - at) (drop at s)) >>= λ f. read_fields (lines_of (drop (end + 2) s)) >>= λ fs. Some (f ∷ fs))
        unfolding read_fields
        field_line =
            let L = line_is s at e g h in
            let k : 1 ≤ length (take (end - at) (drop at s)) = omega (arith, length-take-le (end - at) (drop at s) (omega (arith, length-drop at s, L.high)), L.low, n) in
            rw (line_whole s at e g f, filled (take (end - at) (drop at s)) k)

        module _ {y : Option Seen} (A : Adds s at end x y) where
          pub gather_bad : y ≡ None → FieldsRead s goal None
          gather_bad k =
              let B : Adds s at end x None = rw k at A in
              stops (field_line ∙ go (read_field (take (end - at) (drop at s))) (reads_none (B.is G.before G.sees)))
            where
              go : (o : Option Field) → (o >>= λ f. Some (G.before ++ (f ∷ []))) ≡ None → (o >>= λ f. read_fields (lines_of (drop (end + 2) s)) >>= λ fs. Some (f ∷ fs)) ≡ None
              go None z = refl
              go (Some f) z = let w : ◌≡◌ {A = ℕ} 0 1 = cc in absurd (omega arith)

          pub gather_more : {z : Seen} → y ≡ Some z → Gathering s goal z (end + 2)
          gather_more {z} k =
              let B : Adds s at end x (Some z) = rw k at A in
              let R = reads_to (B.is G.before G.sees) in
              record {
                before = R.all_of;
                sees = R.sees;
                is = sym (ap (λ (o : Option (List Field)). o >>= λ gs. Some (G.before ++ gs)) field_line ∙ go (read_field (take (end - at) (drop at s))) (read_fields (lines_of (drop (end + 2) s))) R.is) ∙ G.is;
              }
            where
              go : {m : List Field} (o : Option Field) (t : Option (List Field)) → (o >>= λ f. Some (G.before ++ (f ∷ []))) ≡ Some m
                  → ((o >>= λ f. t >>= λ fs. Some (f ∷ fs)) >>= λ gs. Some (G.before ++ gs)) ≡ (t >>= λ gs. Some (m ++ gs))
              go None t z = let w : ◌≡◌ {A = ℕ} 0 1 = cc in absurd (omega arith)
              go (Some f) None z = refl
              go {m} (Some f) (Some fs) z = let w : G.before ++ (f ∷ []) ≡ m = cc in rw (← w, append_assoc)

-- ---- what status and fields make

right_first : (p : Bytes → Bool) (vs : List Bytes) → unwrap_or (first_of p vs) false ≡ first_passes p vs
unfolding first_of first_passes
right_first p [] = refl
right_first p (v ∷ vs) = refl

record OneAt (s : Bytes) (vs : List Bytes) (p : Span) : Type 0 where
  low : p.from ≤ p.to
  high : p.to ≤ length s
  is : vs ≡ take (p.to - p.from) (drop p.from s) ∷ []

one_at : {s : Bytes} {vs : List Bytes} {p : Span} → PlaceIs s vs (At p) → OneAt s vs p
one_at (one h k e) = record { low = h; high = k; is = rw e }

none_at : {s : Bytes} {vs : List Bytes} → PlaceIs s vs Nowhere → only vs ≡ None
unfolding only
none_at nowhere = refl

many_at : {s : Bytes} {vs : List Bytes} → PlaceIs s vs Several → only vs ≡ None
unfolding only
many_at several = refl

module _ (status : ℕ) (x : Seen) where
  answers : between 300 399 status ≡ false → {w : Bool} → w ≡ unwrap_or x.typed false → Makes status x (Some (Answer status w))
  unfolding head_of head_in
  answers e {w} f = record {
    is = λ s fs S. record {
      is = let z : w ≡ first_passes is_list_type (values_of type_name fs) = f ∙ rw S.typed_is (right_first is_list_type (values_of type_name fs)) in rw (e, z);
      places = an_answer;
    };
  }

  pub makes_low : {n : ℕ} {w : Bool} → status < n → n ≤ 300 → w ≡ unwrap_or x.typed false → Makes status x (Some (Answer status w))
  makes_low h k f = answers (rw (lt-leb 300 status (omega arith))) f

  pub makes_high : {n : ℕ} {w : Bool} → n < status → 399 ≤ n → w ≡ unwrap_or x.typed false → Makes status x (Some (Answer status w))
  makes_high h k f = answers (rw (lt-leb status 399 (omega arith), and-false)) f

  module _ (h : 300 ≤ status) (k : status ≤ 399) where
    redirects : between 300 399 status ≡ true
    redirects = rw (le-leb 300 status h, le-leb status 399 k)

    makes_none : ((s : Bytes) (fs : List Field) → Sees s fs x → only (values_of location_name fs) ≡ None) → Makes status x None
    unfolding head_of head_in
    makes_none e = record { is = λ s fs S. record { is = rw (redirects, e s fs S); places = no_head } }

    pub makes_nowhere : x.location ≡ Nowhere → Makes status x None
    makes_nowhere e = makes_none (λ s fs S. none_at (rw e at S.location_is))

    pub makes_several : x.location ≡ Several → Makes status x None
    makes_several e = makes_none (λ s fs S. many_at (rw e at S.location_is))

    pub makes_redirect : {p : Span} {w : Bool} → x.location ≡ At p → w ≡ unwrap_or x.authorized false → Makes status x (Some (Redirect status w p))
    unfolding head_of head_in only
    makes_redirect {p} {w} e f = record {
      is = λ s fs S.
          let O = one_at (rw e at S.location_is) in
          let z : w ≡ first_passes is_true (values_of authorized_name fs) = f ∙ rw S.authorized_is (right_first is_true (values_of authorized_name fs)) in
          record { is = rw (redirects, O.is, z); places = a_redirect O.low O.high };
    }

-- ---- the head

module _ (s : Bytes) {end : ℕ} (e : end ≡ 0 + length (take_while is_text_byte s)) where
  pub first_high : end ≤ length s
  first_high = (line_text s 0 {end = end} e refl (omega arith)).high

  pub first_text : all is_text_byte (take (end - 0) s) ≡ true
  first_text = (line_text s 0 {end = end} e refl (omega arith)).is

  module _ {q : Bool} (g : q ≡ begins_with crlf (take (length s - end) (drop end s))) where
    pub first_fits : q ≡ true → length s < 2 ^ 64 → Fits w64 (end + 2)
    first_fits f l = line_fits s 0 e g f l

    head_none : read_lines (lines_of s) ≡ None → ReadsHead s (read_lines (lines_of s)) None
    unfolding head_in
    head_none k = record { is = rw k; places = no_head }

    pub head_cut : q ≡ false → ReadsHead s (read_lines (lines_of s)) None
    head_cut f = head_none (cut_lines (line_cut s 0 e g f))

    module _ (f : q ≡ true) {r : Option ℕ} (t : r ≡ read_status (take (end - 0) s)) where
      head_lines : read_lines (lines_of s) ≡ (read_status (take (end - 0) s) >>= λ status. read_fields (lines_of (drop (end + 2) s)) >>= λ fs. head_of status fs)
      unfolding read_lines
      head_lines = ap read_lines (line_whole s 0 e g f)

      pub head_no_status : r ≡ None → ReadsHead s (read_lines (lines_of s)) None
      head_no_status k = head_none (head_lines ∙ rw (← t, k))

      module _ {n : ℕ} (k : r ≡ Some n) {y : Option Seen} (F : FieldsRead s (read_fields (lines_of (drop (end + 2) s))) y) where
        fields_lines : read_lines (lines_of s) ≡ (read_fields (lines_of (drop (end + 2) s)) >>= λ fs. head_of n fs)
        fields_lines = head_lines ∙ rw (← t, k)

        pub head_no_fields : y ≡ None → ReadsHead s (read_lines (lines_of s)) None
        head_no_fields l = head_none (fields_lines ∙ rw (reads_none (rw l at F)))

        head_from : (fs : List Field) {z : Option Reading} → read_fields (lines_of (drop (end + 2) s)) ≡ Some fs → ReadsHead s (head_of n fs) z → ReadsHead s (read_lines (lines_of s)) z
        head_from fs i R = let E : read_lines (lines_of s) ≡ head_of n fs = fields_lines ∙ rw i in rw E R

        pub head_is : {x : Seen} {z : Option Reading} → y ≡ Some x → Makes n x z → ReadsHead s (read_lines (lines_of s)) z
        head_is l M =
            let R = reads_to (rw l at F) in
            head_from R.all_of R.is (M.is s R.all_of R.sees)

-- at most 8,192 bytes
module _ (s : Bytes) where
  pub head_long : {n : ℕ} → n < length s → 8192 ≤ n → ReadsHead s (read_head s) None
  unfolding head_in read_head
  head_long h k = record { is = rw (lt-leb (length s) 8192 (omega arith)); places = no_head }

  pub head_short : {n : ℕ} {z : Option Reading} → length s ≤ n → n ≤ 8192 → ReadsHead s (read_lines (lines_of s)) z → ReadsHead s (read_head s) z
  unfolding read_head
  head_short h k R = rw (le-leb (length s) 8192 (omega arith)) R

pub ruleset gather_laws = (line_is, line_fits, line_high, gather_starts, gather_out, gather_cut, gather_last, gather_behind, gather_bad, gather_more, rules)

pub ruleset head_laws = (makes_low, makes_high, makes_nowhere, makes_several, makes_redirect, first_high, first_text, first_fits, head_cut, head_no_status, head_no_fields, head_is, rules)

pub ruleset bound_laws = (head_long, head_short, rules)
