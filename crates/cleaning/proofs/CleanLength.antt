-- The cleaned list is no longer than the body that it comes from, so refusal 9 never meets it. Assumes nothing.
use Rattle.std.specs.Prelude.{if◌then◌else◌, Some}
use mathlib.Core.Path.{◌≡◌, refl}
use mathlib.Core.List.{List, [], ◌∷◌, map}
use mathlib.Core.Bool.{Bool, true, false}
use Prim.Native.Nat.{ℕ, ◌+◌, ◌≤◌}
use native.Mathlib.Omega.{arith}
use lib.ListN.{length, length-append}
use Rattle.ascii.specs.Ascii.{Bytes, is_none, filter_by, text, prefixed, join_with}
use Rattle.origin.specs.Origin.{normal_form}
use Rattle.normal_forms.proofs.NormalForms.{normal_short}
use Rattle.trusted_list.specs.TrustedList.{selected, entries}
use Rattle.trusted_list.proofs.Bound.{strings_size, ids_size, version_size, listing_size, list_size, selected_fits}
use Rattle.entries.specs.Causes.{cause, kept}
use Rattle.cleaning.specs.Clean.{quoted, render, cleaned_list}

-- ---- the length of what is written

quoted_length : (x : Bytes) → length (quoted x) ≡ length x + 2
unfolding quoted
quoted_length x = omega (arith, length-append x (text "\""))

prefixed_length : (ids : List Bytes) → length (prefixed 44 (map quoted ids)) ≡ strings_size ids
unfolding prefixed strings_size
prefixed_length [] = refl
prefixed_length (x ∷ xs) = omega (arith, length-append (quoted x) (prefixed 44 (map quoted xs)), quoted_length x, prefixed_length xs)

joined_length : (ids : List Bytes) → length (join_with 44 (map quoted ids)) + 2 ≡ ids_size ids
unfolding join_with ids_size strings_size
joined_length [] = omega arith
joined_length (x ∷ xs) = omega (arith, length-append (quoted x) (prefixed 44 (map quoted xs)), quoted_length x, prefixed_length xs)

-- it is written in the shortest way
pub render_length : (major minor : ℕ) (ids : List Bytes) → length (render major minor ids) ≡ list_size major minor ids
unfolding render list_size listing_size version_size
render_length major minor ids = simp length-append (omega (arith, joined_length ids))

-- ---- normal forms of kept entries are fewer and no longer

kept_size : (p : Bytes → Bool) (ids : List Bytes) → strings_size (map normal_form (filter_by p ids)) ≤ strings_size ids
unfolding strings_size filter_by
kept_size p [] = omega arith
kept_size p (x ∷ xs) = go (p x) (kept_size p xs)
  where
    go : (u : Bool) → strings_size (map normal_form (filter_by p xs)) ≤ strings_size xs
        → strings_size (map normal_form (if u then x ∷ filter_by p xs else filter_by p xs)) ≤ length x + 3 + strings_size xs
    go true h = omega (arith, normal_short x)
    go false h = omega arith

smaller : (major minor : ℕ) (xs ys : List Bytes) → strings_size xs ≤ strings_size ys → list_size major minor xs ≤ list_size major minor ys
unfolding list_size listing_size ids_size
smaller major minor xs ys h = omega arith

-- ---- the cleaned list

pub clean_length : (appid table : Bytes) (major minor : ℕ) (body : Bytes) (ids : List Bytes) → selected major minor body ≡ Some ids
    → length (cleaned_list appid major minor body table) ≤ length body
unfolding cleaned_list entries kept
clean_length appid table major minor body ids e =
    rw e (omega (
      arith,
      render_length major minor (map normal_form (filter_by (λ x. is_none (cause appid table x)) ids)),
      smaller major minor (map normal_form (filter_by (λ x. is_none (cause appid table x)) ids)) ids (kept_size (λ x. is_none (cause appid table x)) ids),
      selected_fits major minor body ids e,
    ))
