-- What is known of a kept entry: none of the four causes holds. Assumes nothing.
use Rattle.std.specs.Prelude.{if◌then◌else◌, Option, Some}
use mathlib.Core.Path.{◌≡◌, refl}
use mathlib.Core.List.{List}
use mathlib.Core.Bool.{Bool, true, false, ◌||◌, not}
use Prim.Native.Nat.{ℕ}
use native.Mathlib.Omega.{arith}
use lib.ListN.{length}
use lib.Dec.{ltb}
use borrow.Author.Tests.{not-false}
use Rattle.ascii.specs.Ascii.{Bytes, is_none, all}
use Rattle.ascii.proofs.ListLaws.{filter_all, filter_id}
use Rattle.origin.specs.Origin.{begins_https, begins_native, web_origin, is_facet}
use Rattle.entries.specs.Causes.{is_other_label, cause, kept}
use Rattle.entries.specs.declared.Cause.{Cause}

-- the test of keeping
unfoldable pub is_kept : Bytes → Bytes → Bytes → Bool
is_kept appid table e = is_none (cause appid table e)

pub record Passes (appid table e : Bytes) : Type 0 where
  pub short : ltb 512 (length e) ≡ false
  pub scheme : (begins_https e || begins_native e) ≡ true
  pub facet : is_facet e ≡ true
  pub label : is_other_label appid table (web_origin e) ≡ false

-- a chain of causes that ends in none: the first test fails, and the others too
peel : (t : Bool) (a : Cause) (r : Option Cause) → is_none (if t then Some a else r) ≡ true → (t ≡ false) × (is_none r ≡ true)
peel true a r e = let z : ◌≡◌ {A = ℕ} 0 1 = cc in absurd (omega arith)
peel false a r e = (refl, e)

module _ (appid table e : Bytes) where
  pub kept_passes : is_kept appid table e ≡ true → Passes appid table e
  unfolding is_kept cause
  kept_passes h =
      let h1 = peel (ltb 512 (length e)) _ _ h in
      let h2 = peel (not (begins_https e || begins_native e)) _ _ h1.1 in
      let h3 = peel (not (is_facet e)) _ _ h2.1 in
      let h4 = peel (is_other_label appid table (web_origin e)) _ _ h3.1 in
      record { short = h1.0; scheme = not-false (begins_https e || begins_native e) h2.0; facet = not-false (is_facet e) h3.0; label = h4.0 }

  pub passes_kept : Passes appid table e → is_kept appid table e ≡ true
  unfolding is_kept cause
  passes_kept P = rw (P.short, P.scheme, P.facet, P.label)

-- ---- lists

module _ (appid table : Bytes) (es : List Bytes) where
  -- every kept entry is one
  pub kept_each : all (is_kept appid table) (kept appid table es) ≡ true
  unfolding kept is_kept
  kept_each = filter_all (λ e. is_none (cause appid table e)) es

  -- where every entry is one, all are kept
  pub kept_id : all (is_kept appid table) es ≡ true → kept appid table es ≡ es
  unfolding kept is_kept
  kept_id h = filter_id (λ e. is_none (cause appid table e)) es h
