-- What the answers of the code mean, in the terms of ResponseHead.
use Rattle.std.specs.Prelude.{◌≡◌, Bool, true, List, [], ◌∷◌, ◌++◌, ℕ, ◌-◌, ◌≤◌, length, take, drop, if◌then◌else◌, Option, None, Some, unwrap_or}
use Rattle.ascii.specs.declared.Span.{Span}
use Rattle.ascii.specs.Ascii.{Bytes, ◌>>=◌, all, same_no_case}
use Rattle.response_head.specs.ResponseHead.{is_text_byte, Field, Head, redirect, answer, trim_end, values_of, read_field, head_of, is_true, is_list_type, authorized_name, type_name, location_name}
use Rattle.response_head.specs.declared.FieldLine.{FieldLine}
use Rattle.response_head.specs.declared.Place.{Place}
use Rattle.response_head.specs.declared.Place.TheVariants.{Nowhere, At, Several}
use Rattle.response_head.specs.declared.Seen.{Seen}
use Rattle.response_head.specs.declared.Head.{Head as Reading}
use Rattle.response_head.specs.declared.Head.TheVariants.{Redirect, Answer}

-- ---- lines

-- the bytes from a place on end at r, blanks at the end left out
pub record Trims (s : Bytes) (from r : ℕ) : Type 0 where
  pub low : from ≤ r
  pub high : r ≤ length s
  pub is : take (r - from) (drop from s) ≡ trim_end (drop from s)

-- the name stands before the colon, the value at its place
unfoldable pub field_in : Bytes → Option FieldLine → Option Field
field_in l None = None
field_in l (Some p) = Some (record { name = take p.colon l; value = take (p.value.to - p.value.from) (drop p.value.from l) })

pub data FieldPlaced (l : Bytes) : Option FieldLine → Type 0 where
  no_field : FieldPlaced l None
  field : {p : FieldLine} → p.colon ≤ length l → p.value.from ≤ p.value.to → p.value.to ≤ length l → FieldPlaced l (Some p)

pub record ReadsField (l : Bytes) (r : Option FieldLine) : Type 0 where
  pub is : field_in l r ≡ read_field l
  pub places : FieldPlaced l r

-- ---- what is seen of the fields

-- of the lines of one name the first: whether it passes
unfoldable pub first_of : (Bytes → Bool) → List Bytes → Option Bool
first_of p [] = None
first_of p (v ∷ vs) = Some (p v)

unfoldable pub first_by : Option Bool → Bool → Option Bool
first_by x q = Some (unwrap_or x q)

-- one Location stands at a place
pub data PlaceIs (s : Bytes) : List Bytes → Place → Type 0 where
  nowhere : PlaceIs s [] Nowhere
  one : {v : Bytes} {p : Span} → p.from ≤ p.to → p.to ≤ length s → take (p.to - p.from) (drop p.from s) ≡ v → PlaceIs s (v ∷ []) (At p)
  several : {v w : Bytes} {vs : List Bytes} → PlaceIs s (v ∷ w ∷ vs) Several

unfoldable pub place_by : Place → Span → Place
place_by Nowhere p = At p
place_by (At q) p = Several
place_by Several p = Several

-- one field more
unfoldable pub seen_with : Bytes → Bytes → Span → Seen → Seen
seen_with name value place x =
    if same_no_case name authorized_name then record { authorized = first_by x.authorized (is_true value); typed = x.typed; location = x.location } else
    if same_no_case name type_name then record { authorized = x.authorized; typed = first_by x.typed (is_list_type value); location = x.location } else
    if same_no_case name location_name then record { authorized = x.authorized; typed = x.typed; location = place_by x.location place } else
    x

-- what is seen of these fields
pub record Sees (s : Bytes) (fs : List Field) (x : Seen) : Type 0 where
  pub authorized_is : x.authorized ≡ first_of is_true (values_of authorized_name fs)
  pub typed_is : x.typed ≡ first_of is_list_type (values_of type_name fs)
  pub location_is : PlaceIs s (values_of location_name fs) x.location

pub data FieldsRead (s : Bytes) : Option (List Field) → Option Seen → Type 0 where
  no_fields : FieldsRead s None None
  fields : {fs : List Field} {x : Seen} → Sees s fs x → FieldsRead s (Some fs) (Some x)

-- a line of text bytes between two places
pub record TextLine (s : Bytes) (at end : ℕ) : Type 0 where
  pub low : at ≤ end
  pub high : end ≤ length s
  pub is : all is_text_byte (take (end - at) (drop at s)) ≡ true

-- behind the fields that x stands for, one field more
pub record Adds (s : Bytes) (at end : ℕ) (x : Seen) (r : Option Seen) : Type 0 where
  pub is : (fs : List Field) → Sees s fs x → FieldsRead s (read_field (take (end - at) (drop at s)) >>= λ f. Some (fs ++ (f ∷ []))) r

-- ---- the head

unfoldable pub head_in : Bytes → Option Reading → Option Head
head_in s None = None
head_in s (Some (Answer status type_seen)) = Some (answer status type_seen)
head_in s (Some (Redirect status authorized p)) = Some (redirect status authorized (take (p.to - p.from) (drop p.from s)))

pub data HeadPlaced (s : Bytes) : Option Reading → Type 0 where
  no_head : HeadPlaced s None
  an_answer : {status : ℕ} {type_seen : Bool} → HeadPlaced s (Some (Answer status type_seen))
  a_redirect : {status : ℕ} {authorized : Bool} {p : Span} → p.from ≤ p.to → p.to ≤ length s → HeadPlaced s (Some (Redirect status authorized p))

pub record ReadsHead (s : Bytes) (o : Option Head) (r : Option Reading) : Type 0 where
  pub is : head_in s r ≡ o
  pub places : HeadPlaced s r

-- what a status and the fields that x stands for make
pub record Makes (status : ℕ) (x : Seen) (r : Option Reading) : Type 0 where
  pub is : (s : Bytes) (fs : List Field) → Sees s fs x → ReadsHead s (head_of status fs) r
