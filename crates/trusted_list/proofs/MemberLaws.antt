-- The ways through a member, and through the members of one or two names.
use Rattle.std.specs.Prelude.{if◌then◌else◌, None, Some, Option}
use mathlib.Core.Path.{◌≡◌, refl, sym, ap, ◌∙◌}
use mathlib.Core.Bool.{Bool, true, false}
use mathlib.Core.List.{List, [], ◌∷◌, ◌++◌, append-nil}
use Prim.Native.Nat.{ℕ, ◌≤◌}
use native.Mathlib.Omega.{arith}
use lib.Dec.{leb}
use lib.ListN.{length}
use borrow.Author.Tests.{leb-false}
use Rattle.ascii.specs.Ascii.{Bytes, same}
use Rattle.ascii.proofs.Compare.{same_eq}
use Rattle.json_text.specs.Reader.{got, bad, mapped}
use Rattle.json_text.specs.Lexical.{read_string}
use Rattle.json_text.specs.code.Places.{read_at, place_of, fit, content_of, is_text}
use Rattle.json_text.proofs.Steps.{found, missed}
use Rattle.json_values.specs.Json.{Json, to_members, read_member, read_value}
use Rattle.json_values.specs.code.Folds.{reading, Relates}
use Rattle.json_values.specs.code.MemberName.{member_name}
use Rattle.json_values.proofs.NameLaws.{Named, named, unnamed}
use Rattle.json_values.proofs.Readings.{was_read, not_read, is_read, no_read}
use Rattle.trusted_list.specs.TrustedList.{values_of}
use Rattle.trusted_list.specs.code.Slots.{Extends, Came, Once, never, one, again, Name, Names, fill, first_filled, second_filled}
use Rattle.trusted_list.specs.declared.Slot.{Slot}
use Rattle.trusted_list.specs.declared.Slot.TheVariants.{Absent, Held, Other, Spoiled}
use Rattle.trusted_list.specs.declared.Two.{Two}

-- ---- one name

same_fits : (n name : Bytes) → length name ≤ 512 → is_text (fit n) name ≡ same n name
unfolding fit is_text
same_fits n name l = go (leb (length n) 512) refl (same n name) refl
  where
    go : (u : Bool) → leb (length n) 512 ≡ u → (v : Bool) → same n name ≡ v → is_text (if u then Some n else None) name ≡ same n name
    go true e v f = refl
    go false e false f = sym f
    go false e true f = absurd (omega (arith, leb-false (length n) 512 e, ap length (same_eq n name f)))

pub record Short (name : Bytes) : Type 0 where
  pub is : length name ≤ 512

-- the name at the place i is tested
is_named : {s : Bytes} {i : ℕ} {n : Bytes} {k : ℕ} (name : Bytes) {t : Bool} → Named s i n k → Short name → t ≡ is_text (content_of (read_at read_string s i)) name → t ≡ same n name
unfolding content_of
is_named name N l e = e ∙ rw N.name_read (same_fits _ name l.is)

values_append : (name : Bytes) (ms : List (Bytes × Json)) (n : Bytes) (v : Json)
    → values_of name (to_members (ms ++ (n, v) ∷ [])) ≡ values_of name (to_members ms) ++ (if same n name then v ∷ [] else [])
unfolding values_of to_members
values_append name [] n v = go (same n name)
  where
    go : (u : Bool) → (if u then v ∷ [] else []) ≡ [] ++ (if u then v ∷ [] else [])
    go true = refl
    go false = refl
values_append name (m ∷ ms) n v = go (same m.0 name) (values_append name ms n v)
  where
    go : (u : Bool) → values_of name (to_members (ms ++ (n, v) ∷ [])) ≡ values_of name (to_members ms) ++ (if same n name then v ∷ [] else [])
        → (if u then m.1 ∷ values_of name (to_members (ms ++ (n, v) ∷ [])) else values_of name (to_members (ms ++ (n, v) ∷ [])))
        ≡ (if u then m.1 ∷ values_of name (to_members ms) else values_of name (to_members ms)) ++ (if same n name then v ∷ [] else [])
    go true ih = ap (λ (l : List Json). m.1 ∷ l) ih
    go false ih = ih

once_fill : {P : Json → Slot → Type 0} {vs : List Json} {x y : Slot} {v : Json} → Once P vs x → Came P v y → Once P (vs ++ v ∷ []) (fill x y)
unfolding fill
once_fill never c = one c
once_fill (one {x = Absent} d) c = absurd (d.there refl)
once_fill (one {x = Held p} d) c = again
once_fill (one {x = Other} d) c = again
once_fill (one {x = Spoiled} d) c = again
once_fill again c = again

module _ {P : Json → Slot → Type 0} (name : Bytes) (ms : List (Bytes × Json)) {x : Slot} (n : Bytes) (v : Json) (O : Once P (values_of name (to_members ms)) x) where
  pub once_more : {y : Slot} → same n name ≡ true → Came P v y → Once P (values_of name (to_members (ms ++ (n, v) ∷ []))) (fill x y)
  once_more e c = rw (values_append name ms n v, e) (once_fill O c)

  pub once_same : same n name ≡ false → Once P (values_of name (to_members (ms ++ (n, v) ∷ []))) x
  once_same e = rw (values_append name ms n v, e, append-nil (values_of name (to_members ms))) O

-- ---- a member, and what is held of those before it

-- of two names that differ
pub record Apart (a b : Bytes) : Type 0 where
  pub differ : same a b ≡ false
  pub first_short : Short a
  pub second_short : Short b

without : (s : Bytes) (at d : ℕ) {q : Option ℕ} {k : ℕ} → q ≡ place_of (read_at member_name s at) → q ≡ Some k → read_at (read_value d) s k ≡ bad → read_at (read_member (read_value d)) s at ≡ bad
unfolding mapped
without s at d e h z = let f = found _ e h in (named f.1).to_value (read_value d) ∙ rw z

module _ (s : Bytes) (at d : ℕ) {R : List (Bytes × Json) → Two → Type 0} {x : Two} {q : Option ℕ} (e : q ≡ place_of (read_at member_name s at)) where
  pub member_stuck : q ≡ None → Relates (Extends R x) (read_at (read_member (read_value d)) s at) (reading None)
  member_stuck h = no_read (unnamed (read_value d) s at (missed _ e h))

  pub skip_stuck : {k : ℕ} {w : Option ℕ} → q ≡ Some k → w ≡ place_of (read_at (read_value d) s k) → w ≡ None → Relates (Extends R x) (read_at (read_member (read_value d)) s at) (reading None)
  skip_stuck h E n = no_read (without s at d e h (missed _ E n))

-- the member at a place: its name, its value, and the place behind
record MemberAt (s : Bytes) (at d : ℕ) (v : Json) (j : ℕ) : Type 0 where
  name : Bytes
  before : ℕ
  is_name : Named s at name before
  reads : read_at (read_member (read_value d)) s at ≡ got (name, v) j

member_at : (s : Bytes) (at d : ℕ) {q : Option ℕ} {k : ℕ} → q ≡ place_of (read_at member_name s at) → q ≡ Some k → {v : Json} {j : ℕ} → read_at (read_value d) s k ≡ got v j → MemberAt s at d v j
unfolding mapped
member_at s at d {k} e h r =
    let f = found _ e h in
    record { name = f.0; before = k; is_name = named f.1; reads = (named f.1).to_value (read_value d) ∙ rw r }

module _ (s : Bytes) (at d : ℕ) {x : Two} {q : Option ℕ} (e : q ≡ place_of (read_at member_name s at)) {k : ℕ} (h : q ≡ Some k) where
  -- two names
  module _ (a b : Bytes) (A : Apart a b) (P Q : Json → Slot → Type 0) {t : Bool} (c : t ≡ is_text (content_of (read_at read_string s at)) a) where
    pub first_named : (w : Option (ℕ × Slot)) {r : Option (ℕ × Two)} → t ≡ true → Relates (Came P) (read_at (read_value d) s k) (reading w) → r ≡ first_filled x w
        → Relates (Extends (Names a b P Q) x) (read_at (read_member (read_value d)) s at) (reading r)
    unfolding first_filled
    first_named None f E m = rw m (no_read (without s at d e h (not_read E refl)))
    first_named (Some p) f E m =
        let H = was_read E refl in
        let M = member_at s at d e h H.read in
        let u : same M.name a ≡ true = sym (is_named a M.is_name A.first_short c) ∙ f in
        let v : same M.name b ≡ false = ap (λ (n : Bytes). same n b) (same_eq M.name a u) ∙ A.differ in
        rw m (is_read (record {
          value = (M.name, H.value);
          read = M.reads;
          is = record {
            is = λ done N. record {
              first_is = once_more a done M.name H.value N.first_is u H.is;
              second_is = once_same b done M.name H.value N.second_is v;
            };
          };
        }))

    module _ {o : Bool} (f : t ≡ false) (l : o ≡ is_text (content_of (read_at read_string s at)) b) where
      pub second_named : (w : Option (ℕ × Slot)) {r : Option (ℕ × Two)} → o ≡ true → Relates (Came Q) (read_at (read_value d) s k) (reading w) → r ≡ second_filled x w
          → Relates (Extends (Names a b P Q) x) (read_at (read_member (read_value d)) s at) (reading r)
      unfolding second_filled
      second_named None i E m = rw m (no_read (without s at d e h (not_read E refl)))
      second_named (Some p) i E m =
          let H = was_read E refl in
          let M = member_at s at d e h H.read in
          let u : same M.name a ≡ false = sym (is_named a M.is_name A.first_short c) ∙ f in
          let v : same M.name b ≡ true = sym (is_named b M.is_name A.second_short l) ∙ i in
          rw m (is_read (record {
            value = (M.name, H.value);
            read = M.reads;
            is = record {
              is = λ done N. record {
                first_is = once_same a done M.name H.value N.first_is u;
                second_is = once_more b done M.name H.value N.second_is v H.is;
              };
            };
          }))

      pub both_kept : {w : Option ℕ} {j : ℕ} → o ≡ false → w ≡ place_of (read_at (read_value d) s k) → w ≡ Some j
          → Relates (Extends (Names a b P Q) x) (read_at (read_member (read_value d)) s at) (reading (Some (j, x)))
      both_kept {w} {j} i E g =
          let F = found _ E g in
          let M = member_at s at d e h F.1 in
          let u : same M.name a ≡ false = sym (is_named a M.is_name A.first_short c) ∙ f in
          let v : same M.name b ≡ false = sym (is_named b M.is_name A.second_short l) ∙ i in
          is_read (record {
            value = (M.name, F.0);
            read = M.reads;
            is = record {
              is = λ done N. record {
                first_is = once_same a done M.name F.0 N.first_is u;
                second_is = once_same b done M.name F.0 N.second_is v;
              };
            };
          })

  -- one name
  module _ (a : Bytes) (A : Short a) (P : Json → Slot → Type 0) {t : Bool} (c : t ≡ is_text (content_of (read_at read_string s at)) a) where
    pub one_named : (w : Option (ℕ × Slot)) {r : Option (ℕ × Two)} → t ≡ true → Relates (Came P) (read_at (read_value d) s k) (reading w) → r ≡ first_filled x w
        → Relates (Extends (Name a P) x) (read_at (read_member (read_value d)) s at) (reading r)
    unfolding first_filled
    one_named None f E m = rw m (no_read (without s at d e h (not_read E refl)))
    one_named (Some p) f E m =
        let H = was_read E refl in
        let M = member_at s at d e h H.read in
        let u : same M.name a ≡ true = sym (is_named a M.is_name A c) ∙ f in
        rw m (is_read (record { value = (M.name, H.value); read = M.reads; is = record { is = λ done N. record { is = once_more a done M.name H.value N.is u H.is } } }))

    pub one_kept : {w : Option ℕ} {j : ℕ} → t ≡ false → w ≡ place_of (read_at (read_value d) s k) → w ≡ Some j
        → Relates (Extends (Name a P) x) (read_at (read_member (read_value d)) s at) (reading (Some (j, x)))
    one_kept {w} {j} f E g =
        let F = found _ E g in
        let M = member_at s at d e h F.1 in
        let u : same M.name a ≡ false = sym (is_named a M.is_name A c) ∙ f in
        is_read (record { value = (M.name, F.0); read = M.reads; is = record { is = λ done N. record { is = once_same a done M.name F.0 N.is u } } })
