-- From what is held of members or items to what is held of the whole value, level by level.
use Rattle.std.specs.Prelude.{if◌then◌else◌, Option, None, Some}
use mathlib.Core.Path.{◌≡◌, refl, sym, ap, ◌∙◌}
use mathlib.Core.Bool.{Bool, true, false, ◌&&◌, not, and-true}
use mathlib.Core.List.{List, [], ◌∷◌, ◌++◌}
use Prim.Native.Nat.{ℕ, suc, ◌+◌, ◌-◌, ◌≤◌}
use native.Mathlib.Omega.{arith}
use lib.Dec.{eqb}
use borrow.Author.Tests.{eq-eqb, ne_eqb}
use Rattle.ascii.specs.Ascii.{Bytes, among, ◌>>=◌, ◌or_else◌, is_none, all, same, text}
use Rattle.json_text.specs.Reader.{got, mapped}
use Rattle.json_text.specs.code.Places.{Peeked, read_at, place_of}
use Rattle.json_text.specs.code.PlainString.{AsciiString, is_short, is_unknown}
use Rattle.json_text.proofs.Steps.{wide, among_not, found, missed}
use Rattle.json_values.proofs.Values.{value_string}
use Rattle.json_values.proofs.Readings.{was_read, not_read, is_read, no_read}
use Rattle.json_values.specs.Json.{Json, array, object, to_items, to_members, read_value, value_read, listed}
use Rattle.json_values.specs.code.Folds.{reading, Relates}
use Rattle.trusted_list.specs.TrustedList.{as_string, values_of, only, once, read_number16, Version, read_version, strings, read_ids, Listing, read_listing, listings, read_listings, read_list, is_wanted, select}
use Rattle.trusted_list.specs.code.Slots.{Extends, Came, Once, never, one, again, Name, Names, number_slot, NumberIs, version_slot, VersionIs, version_of, ids_at, IdsIs, no_ids, ids_held, is_string, strings_slot, Strings, ids_of, ListingIs, no_listing, not_wanted, the_wanted, listing_of, Selects, misshapen, nothing, selects, Listings, ListIs, earlier, BodyIs, no_list, list_is}
use Rattle.json_values.specs.code.Kinds.{Item, opening, closing}
use Rattle.trusted_list.specs.code.Levels.{read_item, whole, Another, Closes, ElseSpoiled}
use Rattle.trusted_list.specs.code.LevelFacts.{spoiled_came}
use Rattle.json_values.specs.declared.Kind.{Kind}
use Rattle.json_values.specs.declared.Kind.TheVariants.{Array, Object}
use Rattle.trusted_list.specs.declared.Slot.{Slot}
use Rattle.trusted_list.specs.declared.Slot.TheVariants.{Absent, Held, Other, Spoiled}
use Rattle.trusted_list.specs.declared.Two.{Two}
use Rattle.trusted_list.proofs.MemberLaws.{Short, Apart}
use Rattle.trusted_list.proofs.FirstByte.{object_at, array_at, string_first, not_object, not_array}

-- ---- a level: an array or an object

module _ {s : Bytes} {i : ℕ} {b : Option ℕ} (g : Peeked s i b) (n : ℕ) (o : 1 ≤ n) where
  level_at : (k : Kind) → wide b ≡ opening k → read_at (read_value n) s i ≡ mapped (whole k) (read_at (listed (read_item k (n - 1)) (closing k ∷ [])) s (i + 1))
  unfolding opening closing
  level_at Array h = let e : n ≡ suc (n - 1) = omega (arith, o) in ap (λ m. read_at (read_value m) s i) e ∙ array_at g (n - 1) h
  level_at Object h = let e : n ≡ suc (n - 1) = omega (arith, o) in ap (λ m. read_at (read_value m) s i) e ∙ object_at g (n - 1) h

  module _ (k : Kind) {R : List (Item k) → Two → Type 0} {q : Option (ℕ × Two)} {P : Json → Slot → Type 0} (h : wide b ≡ opening k)
      (E : Relates R (read_at (listed (read_item k (n - 1)) (closing k ∷ [])) s (i + 1)) (reading q)) where
    pub level_stuck : q ≡ None → Relates P (read_at (read_value n) s i) (reading None)
    unfolding mapped
    level_stuck f = no_read (level_at k h ∙ rw (not_read E f))

  pub level_closed : (k : Kind) {R : Bytes → List (Item k) → Two → Type 0} {q : Option (ℕ × Two)} {P : Bytes → Json → Slot → Type 0} {j : ℕ} {x : Two} {y : Slot} → wide b ≡ opening k
      → Relates (R s) (read_at (listed (read_item k (n - 1)) (closing k ∷ [])) s (i + 1)) (reading q) → q ≡ Some (j, x) → Closes k n i R x P y → Relates (P s) (read_at (read_value n) s i) (reading (Some (j, y)))
  unfolding mapped
  level_closed k {j} h E f C =
      let H = was_read E f in
      let r = level_at k h ∙ ap (mapped (whole k)) H.read in
      is_read (record { value = whole k H.value; read = r; is = C.is s j H.value r H.is })

  another : (k : Kind) {v : Json} {j : ℕ} → read_at (read_value n) s i ≡ got v j → among (opening k ∷ []) (wide b) ≡ false → Another k v
  unfolding opening
  another Array r f = not_array g n r (among_not (wide b) 91 f)
  another Object r f = not_object g n r (among_not (wide b) 123 f)

  pub level_not : (k : Kind) {P : Json → Slot → Type 0} {q : Option ℕ} {j : ℕ} → ElseSpoiled k P → among (opening k ∷ []) (wide b) ≡ false
      → q ≡ place_of (read_at (read_value n) s i) → q ≡ Some j → Relates P (read_at (read_value n) s i) (reading (Some (j, Spoiled)))
  level_not k S f e h =
      let F = found (read_at (read_value n) s i) e h in
      is_read (record { value = F.0; read = F.1; is = S.is F.0 (another k F.1 f) })

differs_held : (p : ℕ) → Held p ≡ Absent → ⊥
differs_held p z = let w : ◌≡◌ {A = ℕ} 0 1 = cc in omega arith

-- ---- `version`

data NumberOf : Option ℕ → Slot → Type 0 where
  has_number : {n : ℕ} → NumberOf (Some n) (Held n)
  absent_number : NumberOf None Absent
  spoiled_number : NumberOf None Spoiled

number_once : {vs : List Json} {x : Slot} → Once NumberIs vs x → NumberOf (only vs >>= read_number16) x
number_once never = absent_number
number_once (one {v} {x} c) = go (read_number16 v) c.is.is
  where
    go : (o : Option ℕ) → x ≡ number_slot o → NumberOf o x
    go None e = unfold number_slot in (rw e spoiled_number)
    go (Some n) e = unfold number_slot in (rw e has_number)
number_once again = spoiled_number

module _ (major minor : ℕ) where
  version_of_lem : {o p : Option ℕ} {x y : Slot} → NumberOf o x → NumberOf p y
      → version_of major minor x y ≡ version_slot major minor (o >>= λ m. p >>= λ n. Some (record { major = m; minor = n }))
  unfolding version_of version_slot is_wanted
  version_of_lem has_number has_number = refl
  version_of_lem has_number absent_number = refl
  version_of_lem has_number spoiled_number = refl
  version_of_lem absent_number b = refl
  version_of_lem spoiled_number b = refl

  there : (x y : Slot) → version_of major minor x y ≡ Absent → ⊥
  unfolding version_of
  there (Held a) (Held b) e = go (eqb a major && eqb b minor) e
    where
      go : (u : Bool) → (if u then Held 0 else Other) ≡ Absent → ⊥
      go true e = let w : ◌≡◌ {A = ℕ} 0 1 = cc in omega arith
      go false e = let w : ◌≡◌ {A = ℕ} 0 1 = cc in omega arith
  there (Held a) Absent e = let w : ◌≡◌ {A = ℕ} 0 1 = cc in omega arith
  there (Held a) Other e = let w : ◌≡◌ {A = ℕ} 0 1 = cc in omega arith
  there (Held a) Spoiled e = let w : ◌≡◌ {A = ℕ} 0 1 = cc in omega arith
  there Absent y e = let w : ◌≡◌ {A = ℕ} 0 1 = cc in omega arith
  there Other y e = let w : ◌≡◌ {A = ℕ} 0 1 = cc in omega arith
  there Spoiled y e = let w : ◌≡◌ {A = ℕ} 0 1 = cc in omega arith

  version_tree_lem : (ms : List (Bytes × Json)) {x : Two} → Names (text "major") (text "minor") NumberIs NumberIs ms x
      → version_of major minor x.first x.second ≡ version_slot major minor (read_version (object (to_members ms)))
  unfolding read_version once
  version_tree_lem ms N = version_of_lem (number_once N.first_is) (number_once N.second_is)

  pub version_closes : {i : ℕ} {x : Two} {y : Slot} → y ≡ version_of major minor x.first x.second
      → Closes Object 13 i (λ s. Names (text "major") (text "minor") NumberIs NumberIs) x (λ s. Came (VersionIs major minor)) y
  version_closes {x} e = record { is = λ s j ms r N. record { is = record { is = e ∙ version_tree_lem ms N }; there = λ z. there x.first x.second (sym e ∙ z) } }

-- ---- `ids`

all_append : (vs : List Json) (v : Json) → all is_string (vs ++ v ∷ []) ≡ (all is_string vs && is_string v)
unfolding all
all_append [] v = and-true (is_string v)
all_append (w ∷ vs) v = go (is_string w) (all_append vs v)
  where
    go : (u : Bool) → all is_string (vs ++ v ∷ []) ≡ (all is_string vs && is_string v) → (u && all is_string (vs ++ v ∷ [])) ≡ (u && all is_string vs && is_string v)
    go true e = e
    go false e = refl

module _ (s : Bytes) (at : ℕ) {x : Two} {q : Option ℕ} (e : q ≡ place_of (read_at (read_value 12) s at)) where
  pub ids_item_stuck : q ≡ None → Relates (Extends Strings x) (read_at (read_value 12) s at) (reading None)
  ids_item_stuck h = no_read (missed _ e h)

  module _ {j : ℕ} {b : Option ℕ} (g : Peeked s at b) (h : q ≡ Some j) where
    pub ids_item_string : wide b ≡ 34 → Relates (Extends Strings x) (read_at (read_value 12) s at) (reading (Some (j, x)))
    ids_item_string c =
        let f = found (read_at (read_value 12) s at) e h in
        let t : is_string f.0 ≡ true = string_first g 12 f.1 ∙ eq-eqb (wide b) 34 c in
        is_read (record { value = f.0; read = f.1; is = record { is = λ done S. record { is = S.is ∙ sym (on done f.0 t) } } })
      where
        on : (done : List Json) (v : Json) → is_string v ≡ true → strings_slot (done ++ v ∷ []) ≡ strings_slot done
        on done v t = unfold strings_slot in (rw (all_append done v, t, and-true (all is_string done)))

    pub ids_item_other : among (34 ∷ []) (wide b) ≡ false → Relates (Extends Strings x) (read_at (read_value 12) s at) (reading (Some (j, (record { first = Spoiled; second = x.second }))))
    ids_item_other c =
        let f = found (read_at (read_value 12) s at) e h in
        let t : is_string f.0 ≡ false = string_first g 12 f.1 ∙ ne_eqb (wide b) 34 (among_not (wide b) 34 c) in
        is_read (record { value = f.0; read = f.1; is = record { is = λ done S. record { is = sym (off done f.0 t) } } })
      where
        no : (u : Bool) → (u && false) ≡ false
        no true = refl
        no false = refl

        off : (done : List Json) (v : Json) → is_string v ≡ false → strings_slot (done ++ v ∷ []) ≡ Spoiled
        off done v t = unfold strings_slot in (rw (all_append done v, t, no (all is_string done)))

pub ids_item_short : (s : Bytes) (at : ℕ) {x : Two} {q : Option ℕ} {j : ℕ} → AsciiString s at q → q ≡ Some j → Relates (Extends Strings x) (read_at (read_value 12) s at) (reading (Some (j, x)))
ids_item_short s at {x} {j} A h = go A h
  where
    go : {q : Option ℕ} → AsciiString s at q → q ≡ Some j → Relates (Extends Strings x) (read_at (read_value 12) s at) (reading (Some (j, x)))
    go (is_short {j = k} g e) h = let z : k ≡ j = cc in ids_item_string s at (value_string 12 g refl refl e) g (ap Some z) refl
    go is_unknown h = let w : ◌≡◌ {A = ℕ} 0 1 = cc in absurd (omega arith)

data StringsOf : Option (List Bytes) → Bool → Type 0 where
  are_strings : {xs : List Bytes} → StringsOf (Some xs) true
  no_strings : StringsOf None false

strings_of : (vs : List Json) → StringsOf (strings (to_items vs)) (all is_string vs)
unfolding strings to_items all is_string
strings_of [] = are_strings
strings_of (v ∷ vs) = go (as_string v) (strings_of vs)
  where
    go : (o : Option Bytes) {p : Option (List Bytes)} {u : Bool} → StringsOf p u → StringsOf (o >>= λ x. p >>= λ xs. Some (x ∷ xs)) (not (is_none o) && u)
    go None h = no_strings
    go (Some x) are_strings = are_strings
    go (Some x) no_strings = no_strings

ids_at_lem : (s : Bytes) (p : ℕ) {v : Json} {j : ℕ} → read_at (read_value 13) s p ≡ got v j → ids_at s p ≡ read_ids v
unfolding ids_at value_read
ids_at_lem s p e = rw e

ids_array : (vs : List Json) → read_ids (array (to_items vs)) ≡ strings (to_items vs)
unfolding read_ids
ids_array vs = refl

ids_found : (s : Bytes) (i j : ℕ) (vs : List Json) → read_at (read_value 13) s i ≡ got (array (to_items vs)) j → Came (IdsIs s) (array (to_items vs)) (ids_of i (strings_slot vs))
unfolding ids_of strings_slot
ids_found s i j vs r = go (strings (to_items vs)) (all is_string vs) refl (strings_of vs)
  where
    go : (p : Option (List Bytes)) (u : Bool) → strings (to_items vs) ≡ p → StringsOf p u → Came (IdsIs s) (array (to_items vs)) (ids_of i (if u then Other else Spoiled))
    go None false e no_strings = spoiled_came (no_ids (ids_array vs ∙ e))
    go (Some xs) true e are_strings = record { is = ids_held (ids_array vs ∙ e) (ids_at_lem s i r ∙ ids_array vs ∙ e); there = differs_held i }
    go None true e x = elim x [ ]
    go (Some xs) false e x = elim x [ ]

pub ids_closes : {i : ℕ} {x : Two} {y : Slot} → y ≡ ids_of i x.first → Closes Array 13 i (λ s. Strings) x (λ s. Came (IdsIs s)) y
ids_closes {i} e = record { is = λ s j vs r S. rw (e, S.is) (ids_found s i j vs r) }

-- ---- an object of the list

data VersionOf (major minor : ℕ) : Option Version → Slot → Type 0 where
  wanted_one : {v : Version} → is_wanted major minor v ≡ true → VersionOf major minor (Some v) (Held 0)
  other_one : {v : Version} → is_wanted major minor v ≡ false → VersionOf major minor (Some v) Other
  absent_one : VersionOf major minor None Absent
  spoiled_one : VersionOf major minor None Spoiled

version_once : (major minor : ℕ) {vs : List Json} {x : Slot} → Once (VersionIs major minor) vs x → VersionOf major minor (only vs >>= read_version) x
version_once major minor never = absent_one
version_once major minor (one {v} {x} c) = go (read_version v) c.is.is
  where
    by : (w : Version) (u : Bool) → is_wanted major minor w ≡ u → x ≡ (if u then Held 0 else Other) → VersionOf major minor (Some w) x
    by w true e f = rw f (wanted_one e)
    by w false e f = rw f (other_one e)

    go : (o : Option Version) → x ≡ version_slot major minor o → VersionOf major minor o x
    go None e = unfold version_slot in (rw e spoiled_one)
    go (Some w) e = unfold version_slot in (by w (is_wanted major minor w) refl e)
version_once major minor again = spoiled_one

data IdsOf (s : Bytes) : Option (List Bytes) → Slot → Type 0 where
  held_ids : {xs : List Bytes} {p : ℕ} → ids_at s p ≡ Some xs → IdsOf s (Some xs) (Held p)
  absent_ids : IdsOf s None Absent
  spoiled_ids : IdsOf s None Spoiled

ids_value : {s : Bytes} {v : Json} {x : Slot} → IdsIs s v x → IdsOf s (read_ids v) x
ids_value (no_ids e) = rw e spoiled_ids
ids_value (ids_held e f) = rw e (held_ids f)

ids_once : {s : Bytes} {vs : List Json} {x : Slot} → Once (IdsIs s) vs x → IdsOf s (only vs >>= read_ids) x
ids_once never = absent_ids
ids_once (one c) = ids_value c.is
ids_once again = spoiled_ids

module _ (s : Bytes) (major minor : ℕ) where
  data ListingOf : Option Listing → Slot → Type 0 where
    bad_listing : ListingOf None Spoiled
    other_listing : {l : Listing} → is_wanted major minor l.version ≡ false → ListingOf (Some l) Other
    wanted_listing : {l : Listing} {p : ℕ} → is_wanted major minor l.version ≡ true → ids_at s p ≡ Some l.ids → ListingOf (Some l) (Held p)

  listing_of_lem : {o : Option Version} {p : Option (List Bytes)} {x y : Slot} → VersionOf major minor o x → IdsOf s p y
      → ListingOf (o >>= λ v. p >>= λ ids. Some (record { version = v; ids = ids })) (listing_of x y)
  unfolding listing_of
  listing_of_lem (wanted_one e) (held_ids f) = wanted_listing e f
  listing_of_lem (wanted_one e) absent_ids = bad_listing
  listing_of_lem (wanted_one e) spoiled_ids = bad_listing
  listing_of_lem (other_one e) (held_ids f) = other_listing e
  listing_of_lem (other_one e) absent_ids = bad_listing
  listing_of_lem (other_one e) spoiled_ids = bad_listing
  listing_of_lem absent_one f = bad_listing
  listing_of_lem spoiled_one f = bad_listing

  to_listing : (v : Json) (o : Option Listing) {x : Slot} → read_listing v ≡ o → ListingOf o x → ListingIs s major minor v x
  to_listing v None e bad_listing = no_listing e
  to_listing v (Some l) e (other_listing f) = not_wanted e f
  to_listing v (Some l) e (wanted_listing f g) = the_wanted e f g

  listing_tree_lem : (ms : List (Bytes × Json)) {x : Two} → Names (text "version") (text "ids") (VersionIs major minor) (IdsIs s) ms x
      → ListingIs s major minor (object (to_members ms)) (listing_of x.first x.second)
  unfolding read_listing once
  listing_tree_lem ms N = to_listing (object (to_members ms)) _ refl (listing_of_lem (version_once major minor N.first_is) (ids_once N.second_is))

pub listing_closes : {major minor i : ℕ} {x : Two} {y : Slot} → y ≡ listing_of x.first x.second
    → Closes Object 14 i (λ s. Names (text "version") (text "ids") (VersionIs major minor) (IdsIs s)) x (λ s. ListingIs s major minor) y
listing_closes {major} {minor} e = record { is = λ s j ms r N. rw e (listing_tree_lem s major minor ms N) }

-- ---- the list

listings_append : (vs : List Json) (v : Json) → listings (to_items (vs ++ v ∷ [])) ≡ (listings (to_items vs) >>= λ ls. read_listing v >>= λ l. Some (ls ++ l ∷ []))
unfolding listings to_items
listings_append [] v = refl
listings_append (w ∷ vs) v = go (read_listing w) (listings (to_items vs)) (read_listing v) (listings_append vs v)
  where
    go : (o : Option Listing) (p : Option (List Listing)) (q : Option Listing) → listings (to_items (vs ++ v ∷ [])) ≡ (p >>= λ ls. q >>= λ l. Some (ls ++ l ∷ []))
        → (o >>= λ x. listings (to_items (vs ++ v ∷ [])) >>= λ xs. Some (x ∷ xs)) ≡ ((o >>= λ x. p >>= λ xs. Some (x ∷ xs)) >>= λ ls. q >>= λ l. Some (ls ++ l ∷ []))
    go None p q e = refl
    go (Some x) None q e = rw e
    go (Some x) (Some xs) None e = rw e
    go (Some x) (Some xs) (Some l) e = rw e

module _ (major minor : ℕ) where
  select_append : (ls : List Listing) (l : Listing) → select major minor (ls ++ l ∷ []) ≡ (select major minor ls or_else (if is_wanted major minor l.version then Some l.ids else None))
  unfolding select
  select_append [] l = refl
  select_append (k ∷ ls) l = go (is_wanted major minor k.version) (select_append ls l)
    where
      go : (u : Bool) → select major minor (ls ++ l ∷ []) ≡ (select major minor ls or_else (if is_wanted major minor l.version then Some l.ids else None))
          → (if u then Some k.ids else select major minor (ls ++ l ∷ [])) ≡ ((if u then Some k.ids else select major minor ls) or_else (if is_wanted major minor l.version then Some l.ids else None))
      go true e = refl
      go false e = e

  module _ (s : Bytes) where
    one_more : {o : Option (List Listing)} {v : Json} {x y : Slot} → Selects s major minor o x → ListingIs s major minor v y
        → Selects s major minor (o >>= λ ls. read_listing v >>= λ l. Some (ls ++ l ∷ [])) (earlier x y)
    unfolding earlier
    one_more misshapen z = misshapen
    one_more (nothing e) (no_listing f) = rw f misshapen
    one_more (nothing {ls} e) (not_wanted {l} f g) = rw f (nothing (select_append ls l ∙ rw (e, g)))
    one_more (nothing {ls} e) (the_wanted {l} f g h) = rw f (selects {xs = l.ids} (select_append ls l ∙ rw (e, g)) h)
    one_more (selects e k) (no_listing f) = rw f misshapen
    one_more (selects {ls} {xs} e k) (not_wanted {l} f g) = rw f (selects {xs = xs} (select_append ls l ∙ rw e) k)
    one_more (selects {ls} {xs} e k) (the_wanted {l} f g h) = rw f (selects {xs = xs} (select_append ls l ∙ rw e) k)

module _ (s : Bytes) (at major minor : ℕ) {x : Two} {q : Option (ℕ × Slot)} (E : Relates (ListingIs s major minor) (read_at (read_value 14) s at) (reading q)) where
  pub list_item_stuck : q ≡ None → Relates (Extends (Listings s major minor) x) (read_at (read_value 14) s at) (reading None)
  list_item_stuck h = no_read (not_read E h)

  pub list_item_more : {j : ℕ} {y z : Slot} → q ≡ Some (j, y) → z ≡ earlier x.first y
      → Relates (Extends (Listings s major minor) x) (read_at (read_value 14) s at) (reading (Some (j, (record { first = z; second = x.second }))))
  list_item_more h e =
      let H = was_read E h in
      is_read (record { value = H.value; read = H.read; is = record { is = λ done L. record { is = rw (e, listings_append done H.value) (one_more major minor s L.is H.is) } } })

selects_there : {s : Bytes} {major minor : ℕ} {o : Option (List Listing)} {x : Slot} → Selects s major minor o x → x ≡ Absent → ⊥
selects_there misshapen z = let w : ◌≡◌ {A = ℕ} 0 1 = cc in omega arith
selects_there (nothing e) z = let w : ◌≡◌ {A = ℕ} 0 1 = cc in omega arith
selects_there (selects {p} e f) z = differs_held p z

list_array : (vs : List Json) → read_listings (array (to_items vs)) ≡ listings (to_items vs)
unfolding read_listings
list_array vs = refl

pub list_closes : {major minor i : ℕ} (x : Two) → Closes Array 15 i (λ s. Listings s major minor) x (λ s. Came (ListIs s major minor)) x.first
list_closes x = record { is = λ s j vs r L. record { is = record { is = rw (list_array vs) L.is }; there = selects_there L.is } }

-- ---- the body

pub facets_short : Short (text "trustedFacets")
facets_short = record { is = omega arith }

pub version_ids : Apart (text "version") (text "ids")
unfolding same
version_ids = record { differ = refl; first_short = record { is = omega arith }; second_short = record { is = omega arith } }

module _ (s : Bytes) (major minor : ℕ) where
  list_once : {vs : List Json} {x : Slot} (v : Json) → read_list v ≡ (only vs >>= read_listings) → Once (ListIs s major minor) vs x → BodyIs s major minor v x
  list_once v e never = no_list e
  list_once v e (one {x} c) = list_is {x = x} (rw e c.is.is)
  list_once v e again = list_is {x = Spoiled} (rw e misshapen)

  body_tree : (ms : List (Bytes × Json)) {x : Two} → Name (text "trustedFacets") (ListIs s major minor) ms x → BodyIs s major minor (object (to_members ms)) x.first
  body_tree ms N = list_once (object (to_members ms)) (list_of ms) N.is
    where
      list_of : (ms : List (Bytes × Json)) → read_list (object (to_members ms)) ≡ (only (values_of (text "trustedFacets") (to_members ms)) >>= read_listings)
      list_of ms = unfold read_list once in refl

pub body_closes : {major minor i : ℕ} (x : Two) → Closes Object 16 i (λ s. Name (text "trustedFacets") (ListIs s major minor)) x (λ s. BodyIs s major minor) x.first
body_closes {major} {minor} x = record { is = λ s j ms r N. body_tree s major minor ms N }
