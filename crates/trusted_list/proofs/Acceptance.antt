-- "A body is accepted when none of refusals 9 to 12 fits it" (document 01, "The list"): it is short enough, and something is selected.
-- Assumes nothing.
use Rattle.std.specs.Prelude.{if◌then◌else◌, Option, None, Some}
use mathlib.Core.Path.{◌≡◌, refl}
use mathlib.Core.List.{List, ◌∷◌}
use mathlib.Core.Bool.{Bool, true, false, ◌&&◌, not}
use Prim.Native.Nat.{ℕ, ◌≤◌}
use native.Mathlib.Omega.{arith}
use lib.ListN.{length}
use lib.Dec.{eqb, leb, ltb}
use borrow.Author.Tests.{eqb-true, leb-true, leb-false, lt-leb}
use Rattle.ascii.specs.Ascii.{Bytes, ◌>>=◌, ◌when◌, is_none, is_empty, all, is_digit, text, value, number16}
use Rattle.ascii.proofs.OptionLaws.{Holds, holds, and_then, chained}
use Rattle.json_values.specs.Json.{Json, Jsons, no_item, item, read_json}
use Rattle.refusals.specs.declared.Refusal.TheVariants.{LongList, Unreadable, Misshapen, NoVersion}
use Rattle.trusted_list.specs.TrustedList.{as_object, as_array, as_number, once, read_number16, Version, read_version, read_ids, Listing, read_listing, listings, read_listings, read_list, is_wanted, select, read_body, selected, list_refusal, Accepted}

-- ---- the version that is selected is one of 16-bit numbers

number_small : (v : Json) → Holds (λ n. n ≤ 65535) (read_number16 v)
unfolding read_number16 number16
number_small v = and_then (λ n. n ≤ 65535) (as_number v) _ λ x e. go x (not (is_empty x) && all is_digit x) (leb (value x) 65535) refl
  where
    go : (x : Bytes) (p q : Bool) → leb (value x) 65535 ≡ q → Holds (λ n. n ≤ 65535) (value x when (p && q))
    go x false q e = tt
    go x true false e = tt
    go x true true e = leb-true (value x) 65535 e

pub record Small (major minor : ℕ) : Type 0 where
  pub major_small : major ≤ 65535
  pub minor_small : minor ≤ 65535

version_small : (v : Json) → Holds (λ x. Small x.major x.minor) (read_version v)
unfolding read_version
version_small v =
    let Q : Version → Type 0 = λ x. Small x.major x.minor in
    and_then Q (as_object v) _ λ ms e.
    and_then Q (once (text "major") ms >>= read_number16) _ λ major f.
    and_then Q (once (text "minor") ms >>= read_number16) _ λ minor g.
    let F = chained (once (text "major") ms) read_number16 major f in
    let G = chained (once (text "minor") ms) read_number16 minor g in
    record { major_small = holds _ _ major (number_small F.between) F.after; minor_small = holds _ _ minor (number_small G.between) G.after }

listing_small : (v : Json) → Holds (λ x. Small x.version.major x.version.minor) (read_listing v)
unfolding read_listing
listing_small v =
    let Q : Listing → Type 0 = λ x. Small x.version.major x.version.minor in
    and_then Q (as_object v) _ λ ms e.
    and_then Q (once (text "version") ms >>= read_version) _ λ version f.
    and_then Q (once (text "ids") ms >>= read_ids) _ λ ids g.
    let F = chained (once (text "version") ms) read_version version f in
    holds _ _ version (version_small F.between) F.after

select_small : (major minor : ℕ) (vs : Jsons) → Holds (λ (xs : List Listing). Holds (λ ids. Small major minor) (select major minor xs)) (listings vs)
unfolding listings select is_wanted
select_small major minor no_item = tt
select_small major minor (item v vs) =
    and_then (λ (xs : List Listing). Holds (λ ids. Small major minor) (select major minor xs)) (read_listing v) _ λ x e.
    go x (listings vs) (holds _ _ x (listing_small v) e) (select_small major minor vs)
  where
    pick : (x : Listing) (p q : Bool) → eqb x.version.major major ≡ p → eqb x.version.minor minor ≡ q → Small x.version.major x.version.minor
        → (o : Option (List Bytes)) → Holds (λ ids. Small major minor) o → Holds (λ ids. Small major minor) (if p && q then Some x.ids else o)
    pick x true true e f k o h = rw (← eqb-true x.version.major major e, ← eqb-true x.version.minor minor f) k
    pick x true false e f k o h = h
    pick x false q e f k o h = h

    go : (x : Listing) (o : Option (List Listing)) → Small x.version.major x.version.minor
        → Holds (λ (xs : List Listing). Holds (λ ids. Small major minor) (select major minor xs)) o
        → Holds (λ (xs : List Listing). Holds (λ ids. Small major minor) (select major minor xs)) (o >>= λ xs. Some (x ∷ xs))
    go x None k h = tt
    go x (Some xs) k h = pick x (eqb x.version.major major) (eqb x.version.minor minor) refl refl k (select major minor xs) h

list_small : (major minor : ℕ) (v : Json) → Holds (λ (xs : List Listing). Holds (λ ids. Small major minor) (select major minor xs)) (read_list v)
unfolding read_list read_listings
list_small major minor v =
    let Q : List Listing → Type 0 = λ xs. Holds (λ ids. Small major minor) (select major minor xs) in
    and_then Q (as_object v) _ λ ms e.
    and_then Q (once (text "trustedFacets") ms) _ λ w f.
    and_then Q (as_array w) _ λ vs g.
    select_small major minor vs

-- where something is selected, major and minor are at most 65535
pub selected_small : (major minor : ℕ) (body : Bytes) (ids : List Bytes) → selected major minor body ≡ Some ids → Small major minor
unfolding selected read_body
selected_small major minor body ids e =
    let C = chained (read_json body >>= read_list) (select major minor) ids e in
    let D = chained (read_json body) read_list C.between C.before in
    holds _ (select major minor C.between) ids (holds _ (read_list D.between) C.between (list_small major minor D.between) D.after) C.after

-- ---- accepted

pub record Selects (major minor : ℕ) (body : Bytes) : Type 0 where
  pub short : length body ≤ 65536
  pub ids : List Bytes
  pub is : selected major minor body ≡ Some ids

pub accepted_selects : (major minor : ℕ) (body : Bytes) → Accepted major minor body → Selects major minor body
unfolding list_refusal
accepted_selects major minor body e = go (ltb 65536 (length body)) refl (is_none (read_json body)) (is_none (read_body body)) (selected major minor body) refl e
  where
    go : (t : Bool) → ltb 65536 (length body) ≡ t → (u v : Bool) (o : Option (List Bytes)) → selected major minor body ≡ o
        → (if t then Some LongList else if u then Some Unreadable else if v then Some Misshapen else if is_none o then Some NoVersion else None) ≡ None
        → Selects major minor body
    go true p u v o q r = let z : ◌≡◌ {A = ℕ} 0 1 = cc in absurd (omega arith)
    go false p true v o q r = let z : ◌≡◌ {A = ℕ} 0 1 = cc in absurd (omega arith)
    go false p false true o q r = let z : ◌≡◌ {A = ℕ} 0 1 = cc in absurd (omega arith)
    go false p false false None q r = let z : ◌≡◌ {A = ℕ} 0 1 = cc in absurd (omega arith)
    go false p false false (Some ids) q r = record { short = omega (arith, leb-false 65537 (length body) p); ids = ids; is = q }

pub selects_accepted : (major minor : ℕ) (body : Bytes) → Selects major minor body → Accepted major minor body
unfolding list_refusal selected read_body
selects_accepted major minor body S =
    let C = chained (read_json body >>= read_list) (select major minor) S.ids S.is in
    let D = chained (read_json body) read_list C.between C.before in
    rw (lt-leb 65537 (length body) (omega (arith, S.short)), D.before, D.after, C.after)
