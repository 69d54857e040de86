-- The cleaned list, read again: it is accepted, and its kept entries are the normal forms of the body's. Assumes nothing of the table or
-- the AppID.
use mathlib.Core.Path.{◌≡◌, refl, ap, ◌∙◌}
use mathlib.Core.List.{List, [], ◌∷◌, map}
use mathlib.Core.Bool.{true}
use Rattle.std.specs.Prelude.{Option, Some, unwrap_or}
use Prim.Native.Nat.{ℕ, ◌≤◌}
use native.Mathlib.Omega.{arith}
use borrow.Author.Tests.{eq-eqb}
use Rattle.ascii.specs.Ascii.{Bytes, all, same, decimal}
use Rattle.ascii.proofs.DecimalLaws.{number_decimal}
use Rattle.origin.specs.Origin.{normal_form}
use Rattle.normal_forms.specs.code.Normals.{is_plain_byte}
use Rattle.json_values.specs.Json.{number, string, to_items, to_members}
use Rattle.trusted_list.specs.TrustedList.{values_of, once, read_number16, read_version, strings, read_ids, read_listing, listings, read_listings, read_list, is_wanted, select, read_body, selected, entries, Accepted}
use Rattle.trusted_list.proofs.Acceptance.{Small, selected_small, accepted_selects, selects_accepted}
use Rattle.entries.specs.Causes.{kept}
use Rattle.entries.proofs.KeptNormal.{kept_normals, normals_plain}
use Rattle.cleaning.specs.Clean.{render, cleaned_list}
use Rattle.cleaning.proofs.CleanLength.{clean_length}
use Rattle.cleaning.proofs.RenderReads.{version_tree, listing_tree, list_tree, render_reads}

-- ---- the shape and the selection of what is written

strings_back : (xs : List Bytes) → strings (to_items (map string xs)) ≡ Some xs
unfolding strings to_items
strings_back [] = refl
strings_back (x ∷ xs) = rw (strings_back xs)

number_back : (n : ℕ) → n ≤ 65535 → read_number16 (number (decimal n)) ≡ Some n
unfolding read_number16
number_back n h = number_decimal n h

module _ (major minor : ℕ) (S : Small major minor) where
  version_back : read_version (version_tree major minor) ≡ Some (record { major = major; minor = minor })
  unfolding read_version version_tree to_members once values_of same
  version_back = rw (number_back major S.major_small, number_back minor S.minor_small)

  module _ (ids : List Bytes) where
    listing_back : read_listing (listing_tree major minor ids) ≡ Some (record { version = record { major = major; minor = minor }; ids = ids })
    unfolding read_listing listing_tree to_members once values_of same read_ids
    listing_back = rw (version_back, strings_back ids)

    list_back : read_list (list_tree major minor ids) ≡ Some (record { version = record { major = major; minor = minor }; ids = ids } ∷ [])
    unfolding read_list list_tree to_members once values_of same read_listings listings to_items
    list_back = rw listing_back

    -- the ids that were written are selected
    pub selected_back : all (all is_plain_byte) ids ≡ true → selected major minor (render major minor ids) ≡ Some ids
    unfolding selected read_body select is_wanted
    selected_back e = rw (render_reads major minor ids S.major_small S.minor_small e, list_back, eq-eqb major major refl, eq-eqb minor minor refl)

-- ---- the cleaned list

module _ (appid table : Bytes) (major minor : ℕ) (body : Bytes) (accepted : Accepted major minor body) where
  selected_again : selected major minor (cleaned_list appid major minor body table) ≡ Some (map normal_form (kept appid table (entries major minor body)))
  unfolding cleaned_list
  selected_again =
      let S = accepted_selects major minor body accepted in
      selected_back major minor (selected_small major minor body S.ids S.is) (map normal_form (kept appid table (entries major minor body))) (normals_plain appid table (entries major minor body))

  -- none of refusals 9 to 12 meets it
  pub cleaned_accepted : Accepted major minor (cleaned_list appid major minor body table)
  cleaned_accepted =
      let S = accepted_selects major minor body accepted in
      selects_accepted major minor (cleaned_list appid major minor body table) (record {
        short = omega (arith, S.short, clean_length appid table major minor body S.ids S.is);
        ids = map normal_form (kept appid table (entries major minor body));
        is = selected_again;
      })

  -- its entries are the normal forms
  pub entries_again : entries major minor (cleaned_list appid major minor body table) ≡ map normal_form (kept appid table (entries major minor body))
  unfolding entries
  entries_again = ap (λ (o : Option (List Bytes)). unwrap_or o []) selected_again

  -- all of which are kept
  pub kept_again : kept appid table (entries major minor (cleaned_list appid major minor body table)) ≡ map normal_form (kept appid table (entries major minor body))
  kept_again = ap (kept appid table) entries_again ∙ kept_normals appid table (entries major minor body)
