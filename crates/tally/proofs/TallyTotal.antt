-- The tally counts kept entries and each of the four causes; their total is the number of entries (document 01, after the decision).
use Rattle.std.specs.Prelude.{if◌then◌else◌, Option, None, Some}
use mathlib.Core.Path.{◌≡◌, refl}
use mathlib.Core.List.{List, [], ◌∷◌}
use Prim.Native.Nat.{ℕ, suc, ◌+◌}
use native.Mathlib.Omega.{arith}
use lib.ListN.{length}
use lib.Dec.{eqb}
use Rattle.ascii.specs.Ascii.{Bytes, filter_by}
use Rattle.refusals.specs.declared.Refusal.{Refusal}
use Rattle.trusted_list.specs.TrustedList.{entries}
use Rattle.entries.specs.Causes.{cause}
use Rattle.entries.specs.declared.Cause.{Cause}
use Rattle.entries.specs.declared.Cause.TheVariants.{TooLong, OtherScheme, NotFacet, OtherLabel}
use Rattle.cleaning.specs.Clean.{clean_refusal}
use Rattle.tally.specs.Tally.{cause_number, Counts, total, count_of, counts, tallied, or_tally, tally}

-- of any entries
pub counts_total : (appid table : Bytes) (es : List Bytes) → total (counts appid table es) ≡ length es
unfolding counts count_of filter_by
counts_total appid table [] = refl
counts_total appid table (e ∷ es) = go (cause appid table e) (counts_total appid table es)
  where
    those : Option Cause → ℕ → List Bytes
    those c k = if eqb (cause_number c) k then e ∷ filter_by (λ x. eqb (cause_number (cause appid table x)) k) es else filter_by (λ x. eqb (cause_number (cause appid table x)) k) es

    go : (c : Option Cause) → total (counts appid table es) ≡ length es
        → length (those c 0) + length (those c 1) + length (those c 2) + length (those c 3) + length (those c 4) ≡ suc (length es)
    go None h = omega arith
    go (Some TooLong) h = omega arith
    go (Some OtherScheme) h = omega arith
    go (Some NotFacet) h = omega arith
    go (Some OtherLabel) h = omega arith

-- of a tally: its counts add up to the number of selected entries
pub tally_total : (appid : Bytes) (major minor : ℕ) (body table : Bytes) (c : Counts) → tally appid major minor body table ≡ tallied c → total c ≡ length (entries major minor body)
unfolding tally or_tally
tally_total appid major minor body table c e = go (clean_refusal appid major minor body table) e
  where
    go : (r : Option Refusal) → or_tally r (counts appid table (entries major minor body)) ≡ tallied c → total c ≡ length (entries major minor body)
    go None e = let z : counts appid table (entries major minor body) ≡ c = cc in rw (← z) (counts_total appid table (entries major minor body))
    go (Some r) e = let z : ◌≡◌ {A = ℕ} 0 1 = cc in absurd (omega arith)
