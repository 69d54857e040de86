-- The shortest text of a list: no body from which a version and its ids are read is shorter than the text that cleaning writes for them.
-- Assumes nothing.
use Rattle.std.specs.Prelude.{if◌then◌else◌, Option, None, Some}
use mathlib.Core.Path.{◌≡◌, refl, ap}
use mathlib.Core.List.{List, [], ◌∷◌}
use mathlib.Core.Bool.{Bool, true, false, ◌&&◌, not}
use Prim.Native.Nat.{ℕ, ◌+◌, ◌≤◌, max}
use native.Mathlib.Omega.{arith}
use lib.ListN.{length}
use lib.Dec.{eqb, leb}
use borrow.Author.Tests.{eqb-true}
use Rattle.ascii.specs.Ascii.{Bytes, ◌>>=◌, ◌when◌, is_empty, all, is_digit, same, text, value, number16, decimal}
use Rattle.ascii.proofs.Compare.{same_eq}
use Rattle.ascii.proofs.OptionLaws.{Holds, holds, and_then, chained}
use Rattle.ascii.proofs.DecimalLaws.{decimal_shortest}
use Rattle.json_values.specs.Json.{Json, literal, number, string, array, object, Jsons, no_item, item, Members, no_member, member, read_json}
use Rattle.json_values.proofs.Sizes.{size, items_size, members_size, json_size}
use Rattle.trusted_list.specs.TrustedList.{as_object, as_array, as_string, as_number, values_of, only, once, read_number16, Version, read_version, strings, read_ids, Listing, read_listing, listings, read_listings, read_list, is_wanted, select, read_body, selected}

-- ---- members by name

-- so many bytes stand around the values of the members of a name
total : Bytes → List Json → ℕ
total name [] = 0
total name (v ∷ vs) = length name + 4 + size v + total name vs

one_name : (a : Bytes) (ms : Members) → total a (values_of a ms) ≤ members_size ms
unfolding total values_of members_size
one_name a no_member = omega arith
one_name a (member n v ms) = go (same n a) refl (one_name a ms)
  where
    go : (p : Bool) → same n a ≡ p → total a (values_of a ms) ≤ members_size ms
        → total a (if p then v ∷ values_of a ms else values_of a ms) ≤ length n + 3 + size v + 1 + members_size ms
    go true e h = omega (arith, ap length (same_eq n a e))
    go false e h = omega arith

two_names : (a b : Bytes) → same a b ≡ false → (ms : Members) → total a (values_of a ms) + total b (values_of b ms) ≤ members_size ms
unfolding total values_of members_size
two_names a b d no_member = omega arith
two_names a b d (member n v ms) = go (same n a) (same n b) refl refl (two_names a b d ms)
  where
    go : (p q : Bool) → same n a ≡ p → same n b ≡ q → total a (values_of a ms) + total b (values_of b ms) ≤ members_size ms
        → total a (if p then v ∷ values_of a ms else values_of a ms) + total b (if q then v ∷ values_of b ms else values_of b ms) ≤ length n + 3 + size v + 1 + members_size ms
    go true true e f h = let k : n ≡ a = same_eq n a e in let z : ◌≡◌ {A = ℕ} 0 1 = cc in absurd (omega arith)
    go true false e f h = omega (arith, ap length (same_eq n a e))
    go false true e f h = omega (arith, ap length (same_eq n b f))
    go false false e f h = omega arith

only_total : (a : Bytes) (vs : List Json) (v : Json) → only vs ≡ Some v → total a vs ≡ length a + 4 + size v
unfolding total
only_total a [] v e = let z : ◌≡◌ {A = ℕ} 0 1 = cc in absurd (omega arith)
only_total a (w ∷ []) v e = let q : w ≡ v = cc in rw q (omega arith)
only_total a (w ∷ x ∷ vs) v e = let z : ◌≡◌ {A = ℕ} 0 1 = cc in absurd (omega arith)

once_total : (a : Bytes) (ms : Members) (v : Json) → once a ms ≡ Some v → total a (values_of a ms) ≡ length a + 4 + size v
unfolding once
once_total a ms v e = only_total a (values_of a ms) v e

-- ---- values of one kind

object_is : (v : Json) (ms : Members) → as_object v ≡ Some ms → size v ≡ 1 + max 1 (members_size ms)
unfolding size
object_is literal ms e = let z : ◌≡◌ {A = ℕ} 0 1 = cc in absurd (omega arith)
object_is (number x) ms e = let z : ◌≡◌ {A = ℕ} 0 1 = cc in absurd (omega arith)
object_is (string x) ms e = let z : ◌≡◌ {A = ℕ} 0 1 = cc in absurd (omega arith)
object_is (array x) ms e = let z : ◌≡◌ {A = ℕ} 0 1 = cc in absurd (omega arith)
object_is (object x) ms e = let q : x ≡ ms = cc in rw q

array_is : (v : Json) (vs : Jsons) → as_array v ≡ Some vs → size v ≡ 1 + max 1 (items_size vs)
unfolding size
array_is literal vs e = let z : ◌≡◌ {A = ℕ} 0 1 = cc in absurd (omega arith)
array_is (number x) vs e = let z : ◌≡◌ {A = ℕ} 0 1 = cc in absurd (omega arith)
array_is (string x) vs e = let z : ◌≡◌ {A = ℕ} 0 1 = cc in absurd (omega arith)
array_is (array x) vs e = let q : x ≡ vs = cc in rw q
array_is (object x) vs e = let z : ◌≡◌ {A = ℕ} 0 1 = cc in absurd (omega arith)

string_is : (v : Json) (x : Bytes) → as_string v ≡ Some x → size v ≡ length x + 2
unfolding size
string_is literal x e = let z : ◌≡◌ {A = ℕ} 0 1 = cc in absurd (omega arith)
string_is (number y) x e = let z : ◌≡◌ {A = ℕ} 0 1 = cc in absurd (omega arith)
string_is (string y) x e = let q : y ≡ x = cc in rw q
string_is (array y) x e = let z : ◌≡◌ {A = ℕ} 0 1 = cc in absurd (omega arith)
string_is (object y) x e = let z : ◌≡◌ {A = ℕ} 0 1 = cc in absurd (omega arith)

number_is : (v : Json) (x : Bytes) → as_number v ≡ Some x → size v ≡ max 1 (length x)
unfolding size
number_is literal x e = let z : ◌≡◌ {A = ℕ} 0 1 = cc in absurd (omega arith)
number_is (number y) x e = let q : y ≡ x = cc in rw q
number_is (string y) x e = let z : ◌≡◌ {A = ℕ} 0 1 = cc in absurd (omega arith)
number_is (array y) x e = let z : ◌≡◌ {A = ℕ} 0 1 = cc in absurd (omega arith)
number_is (object y) x e = let z : ◌≡◌ {A = ℕ} 0 1 = cc in absurd (omega arith)

-- ---- the least length of each part

-- each string with two quotes and the byte behind it
unfoldable pub strings_size : List Bytes → ℕ
strings_size [] = 0
strings_size (x ∷ xs) = length x + 3 + strings_size xs

-- `["..",".."]`, or `[]`
unfoldable pub ids_size : List Bytes → ℕ
ids_size xs = 1 + max 1 (strings_size xs)

-- `{"major":M,"minor":N}`
unfoldable pub version_size : ℕ → ℕ → ℕ
version_size major minor = 1 + (5 + 4 + length (decimal major)) + (5 + 4 + length (decimal minor))

-- `{"version":..,"ids":..}`
unfoldable pub listing_size : ℕ → ℕ → List Bytes → ℕ
listing_size major minor ids = 1 + (7 + 4 + version_size major minor) + (3 + 4 + ids_size ids)

-- `{"trustedFacets":[..]}`
unfoldable pub list_size : ℕ → ℕ → List Bytes → ℕ
list_size major minor ids = 1 + (13 + 4 + (1 + (listing_size major minor ids + 1)))

-- ---- what is read is no shorter

number_fits : (v : Json) → Holds (λ n. length (decimal n) ≤ size v) (read_number16 v)
unfolding read_number16 number16
number_fits v = and_then (λ n. length (decimal n) ≤ size v) (as_number v) _ λ x e. go x (is_empty x) (all is_digit x) (leb (value x) 65535) refl (number_is v x e)
  where
    go : (x : Bytes) (o p q : Bool) → all is_digit x ≡ p → size v ≡ max 1 (length x) → Holds (λ n. length (decimal n) ≤ size v) (value x when (not o && p && q))
    go x true p q e k = tt
    go x false false q e k = tt
    go x false true false e k = tt
    go x false true true e k = rw k (decimal_shortest x e)

version_fits : (v : Json) → Holds (λ x. version_size x.major x.minor ≤ size v) (read_version v)
unfolding read_version version_size same
version_fits v =
    let Q : Version → Type 0 = λ x. version_size x.major x.minor ≤ size v in
    and_then Q (as_object v) _ λ ms e.
    and_then Q (once (text "major") ms >>= read_number16) _ λ major f.
    and_then Q (once (text "minor") ms >>= read_number16) _ λ minor g.
    let F = chained (once (text "major") ms) read_number16 major f in
    let G = chained (once (text "minor") ms) read_number16 minor g in
    omega (
      arith,
      object_is v ms e,
      two_names (text "major") (text "minor") refl ms,
      once_total (text "major") ms F.between F.before,
      once_total (text "minor") ms G.between G.before,
      holds _ _ major (number_fits F.between) F.after,
      holds _ _ minor (number_fits G.between) G.after,
    )

strings_fit : (vs : Jsons) → Holds (λ xs. strings_size xs ≡ items_size vs) (strings vs)
unfolding strings strings_size items_size
strings_fit no_item = refl
strings_fit (item v vs) =
    and_then (λ xs. strings_size xs ≡ size v + 1 + items_size vs) (as_string v) _ λ x e.
    go x (strings vs) (string_is v x e) (strings_fit vs)
  where
    go : (x : Bytes) (o : Option (List Bytes)) → size v ≡ length x + 2 → Holds (λ xs. strings_size xs ≡ items_size vs) o
        → Holds (λ xs. strings_size xs ≡ size v + 1 + items_size vs) (o >>= λ xs. Some (x ∷ xs))
    go x None k h = tt
    go x (Some xs) k h = omega arith

ids_fit : (v : Json) → Holds (λ xs. ids_size xs ≡ size v) (read_ids v)
unfolding read_ids ids_size
ids_fit v = and_then (λ xs. ids_size xs ≡ size v) (as_array v) _ λ vs e. go vs (strings vs) (array_is v vs e) (strings_fit vs)
  where
    go : (vs : Jsons) (o : Option (List Bytes)) → size v ≡ 1 + max 1 (items_size vs) → Holds (λ xs. strings_size xs ≡ items_size vs) o → Holds (λ xs. ids_size xs ≡ size v) o
    go vs None k h = tt
    go vs (Some xs) k h = rw (h, k)

listing_fits : (v : Json) → Holds (λ x. listing_size x.version.major x.version.minor x.ids ≤ size v) (read_listing v)
unfolding read_listing listing_size same
listing_fits v =
    let Q : Listing → Type 0 = λ x. listing_size x.version.major x.version.minor x.ids ≤ size v in
    and_then Q (as_object v) _ λ ms e.
    and_then Q (once (text "version") ms >>= read_version) _ λ version f.
    and_then Q (once (text "ids") ms >>= read_ids) _ λ ids g.
    let F = chained (once (text "version") ms) read_version version f in
    let G = chained (once (text "ids") ms) read_ids ids g in
    omega (
      arith,
      object_is v ms e,
      two_names (text "version") (text "ids") refl ms,
      once_total (text "version") ms F.between F.before,
      once_total (text "ids") ms G.between G.before,
      holds _ _ version (version_fits F.between) F.after,
      holds _ _ ids (ids_fit G.between) G.after,
    )

-- of the first object of the wanted version
select_fits : (major minor : ℕ) (vs : Jsons)
    → Holds (λ (xs : List Listing). Holds (λ ids. listing_size major minor ids + 1 ≤ items_size vs) (select major minor xs)) (listings vs)
unfolding listings select is_wanted items_size
select_fits major minor no_item = tt
select_fits major minor (item v vs) =
    and_then (λ (xs : List Listing). Holds (λ ids. listing_size major minor ids + 1 ≤ size v + 1 + items_size vs) (select major minor xs)) (read_listing v) _ λ x e.
    go x (listings vs) (holds _ _ x (listing_fits v) e) (select_fits major minor vs)
  where
    pick : (x : Listing) (p q : Bool) → eqb x.version.major major ≡ p → eqb x.version.minor minor ≡ q → listing_size x.version.major x.version.minor x.ids ≤ size v
        → (o : Option (List Bytes)) → Holds (λ ids. listing_size major minor ids + 1 ≤ items_size vs) o
        → Holds (λ ids. listing_size major minor ids + 1 ≤ size v + 1 + items_size vs) (if p && q then Some x.ids else o)
    pick x true true e f k o h =
        let l : listing_size major minor x.ids ≤ size v = rw (← eqb-true x.version.major major e, ← eqb-true x.version.minor minor f) k in omega arith
    pick x true false e f k None h = tt
    pick x true false e f k (Some ids) h = omega arith
    pick x false q e f k None h = tt
    pick x false q e f k (Some ids) h = omega arith

    go : (x : Listing) (o : Option (List Listing)) → listing_size x.version.major x.version.minor x.ids ≤ size v
        → Holds (λ (xs : List Listing). Holds (λ ids. listing_size major minor ids + 1 ≤ items_size vs) (select major minor xs)) o
        → Holds (λ (xs : List Listing). Holds (λ ids. listing_size major minor ids + 1 ≤ size v + 1 + items_size vs) (select major minor xs)) (o >>= λ xs. Some (x ∷ xs))
    go x None k h = tt
    go x (Some xs) k h = pick x (eqb x.version.major major) (eqb x.version.minor minor) refl refl k (select major minor xs) h

-- of a whole list
list_fits : (major minor : ℕ) (v : Json) → Holds (λ (xs : List Listing). Holds (λ ids. list_size major minor ids ≤ size v) (select major minor xs)) (read_list v)
unfolding read_list read_listings list_size
list_fits major minor v =
    let Q : List Listing → Type 0 = λ xs. Holds (λ ids. list_size major minor ids ≤ size v) (select major minor xs) in
    and_then Q (as_object v) _ λ ms e.
    and_then Q (once (text "trustedFacets") ms) _ λ w f.
    and_then Q (as_array w) _ λ vs g.
    go ms w vs (object_is v ms e) (once_total (text "trustedFacets") ms w f) (array_is w vs g) (listings vs) (select_fits major minor vs)
  where
    pick : (ms : Members) (w : Json) (vs : Jsons) → size v ≡ 1 + max 1 (members_size ms) → total (text "trustedFacets") (values_of (text "trustedFacets") ms) ≡ 17 + size w → size w ≡ 1 + max 1 (items_size vs)
        → (o : Option (List Bytes)) → Holds (λ ids. listing_size major minor ids + 1 ≤ items_size vs) o → Holds (λ ids. list_size major minor ids ≤ size v) o
    pick ms w vs e f g None h = tt
    pick ms w vs e f g (Some ids) h = omega (arith, one_name (text "trustedFacets") ms)

    go : (ms : Members) (w : Json) (vs : Jsons) → size v ≡ 1 + max 1 (members_size ms) → total (text "trustedFacets") (values_of (text "trustedFacets") ms) ≡ 17 + size w → size w ≡ 1 + max 1 (items_size vs)
        → (o : Option (List Listing)) → Holds (λ (xs : List Listing). Holds (λ ids. listing_size major minor ids + 1 ≤ items_size vs) (select major minor xs)) o
        → Holds (λ (xs : List Listing). Holds (λ ids. list_size major minor ids ≤ size v) (select major minor xs)) o
    go ms w vs e f g None h = tt
    go ms w vs e f g (Some xs) h = pick ms w vs e f g (select major minor xs) h

-- the list of the wanted version and the selected ids, written in the shortest way, is no longer than the body
pub selected_fits : (major minor : ℕ) (body : Bytes) (ids : List Bytes) → selected major minor body ≡ Some ids → list_size major minor ids ≤ length body
unfolding selected read_body
selected_fits major minor body ids e =
    let C = chained (read_json body >>= read_list) (select major minor) ids e in
    let D = chained (read_json body) read_list C.between C.before in
    omega (arith, json_size body D.between D.before, holds _ (select major minor C.between) ids (holds _ (read_list D.between) C.between (list_fits major minor D.between) D.after) C.after)
