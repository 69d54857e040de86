-- What each level states of itself, beside its code: what holds before its first element, and of a value of another kind.
use Rattle.std.specs.Prelude.{◌≡◌, [], ℕ, refl}
use native.Mathlib.Omega.{arith}
use Rattle.ascii.specs.Ascii.{Bytes, all}
use Rattle.json_values.specs.Json.{Json, to_items, to_members}
use Rattle.trusted_list.specs.TrustedList.{values_of, read_version, read_ids, read_listing, listings, read_listings, read_list, select}
use Rattle.trusted_list.specs.code.Levels.{start, ElseSpoiled}
use Rattle.trusted_list.specs.code.Slots.{Came, never, Name, Names, version_slot, VersionIs, IdsIs, no_ids, strings_slot, Strings, ListingIs, no_listing, misshapen, nothing, Listings, ListIs, BodyIs, list_is}
use Rattle.json_values.specs.declared.Kind.TheVariants.{Array, Object}
use Rattle.trusted_list.specs.declared.Slot.{Slot}
use Rattle.trusted_list.specs.declared.Slot.TheVariants.{Absent, Spoiled}

-- ---- before the first element

pub names_start : (a b : Bytes) (P Q : Json → Slot → Type 0) → Names a b P Q [] (start Object)
unfolding start to_members values_of
names_start a b P Q = record { first_is = never; second_is = never }

pub name_start : (a : Bytes) (P : Json → Slot → Type 0) → Name a P [] (start Object)
unfolding start to_members values_of
name_start a P = record { is = never }

pub strings_start : Strings [] (start Array)
unfolding start strings_slot all
strings_start = record { is = refl }

pub listings_start : (s : Bytes) (major minor : ℕ) → Listings s major minor [] (start Array)
unfolding start to_items listings select
listings_start s major minor = record { is = nothing refl }

-- ---- a value of another kind

pub spoiled_came : {P : Json → Slot → Type 0} {v : Json} → P v Spoiled → Came P v Spoiled
spoiled_came p = record { is = p; there = λ z. differs z }
  where
    differs : Spoiled ≡ Absent → ⊥
    differs z = let w : ◌≡◌ {A = ℕ} 0 1 = cc in omega arith

pub version_else : (major minor : ℕ) → ElseSpoiled Object (Came (VersionIs major minor))
unfolding read_version version_slot
version_else major minor = record { is = λ v e. spoiled_came (record { is = rw e }) }

pub ids_else : (s : Bytes) → ElseSpoiled Array (Came (IdsIs s))
unfolding read_ids
ids_else s = record { is = λ v e. spoiled_came (no_ids (rw e)) }

pub listing_else : (s : Bytes) (major minor : ℕ) → ElseSpoiled Object (ListingIs s major minor)
unfolding read_listing
listing_else s major minor = record { is = λ v e. no_listing (rw e) }

pub list_else : (s : Bytes) (major minor : ℕ) → ElseSpoiled Array (Came (ListIs s major minor))
unfolding read_listings
list_else s major minor = record { is = λ v e. spoiled_came (record { is = rw e misshapen }) }

pub body_else : (s : Bytes) (major minor : ℕ) → ElseSpoiled Object (BodyIs s major minor)
unfolding read_list
body_else s major minor = record { is = λ v e. list_is {x = Spoiled} (rw e misshapen) }
