-- The re-reading theorem: the cleaned list, read again with all other inputs equal, gives every caller the same decision. Assumes nothing
-- of the table or the AppID.
use mathlib.Core.Path.{◌≡◌, refl}
use Prim.Native.Nat.{ℕ}
use Rattle.ascii.specs.Ascii.{Bytes}
use Rattle.trusted_list.specs.TrustedList.{entries, Accepted}
use Rattle.entries.specs.Causes.{kept}
use Rattle.decision.specs.Decide.{Stage, settled, list_due, before_list, late_refusal, by_list, decide}
use Rattle.decision.proofs.MatchNormal.{first_normal}
use Rattle.cleaning.specs.Clean.{cleaned_list}
use Rattle.cleaning.proofs.Rereading.{cleaned_accepted, kept_again}

module _ (appid table : Bytes) (major minor : ℕ) (body : Bytes) (accepted : Accepted major minor body) where
  by_list_again : (caller : Bytes) (stage : Stage) → by_list caller appid major minor (cleaned_list appid major minor body table) table stage ≡ by_list caller appid major minor body table stage
  unfolding by_list late_refusal
  by_list_again caller (settled a) = refl
  by_list_again caller (list_due response) = rw (cleaned_accepted appid table major minor body accepted, accepted, kept_again appid table major minor body accepted, first_normal caller (kept appid table (entries major minor body)))

  -- for every caller, record and text the answer is the same: rule and place, fetch, or refusal
  pub re_reading : (caller items lent : Bytes)
      → decide caller appid major minor items lent (cleaned_list appid major minor body table) table ≡ decide caller appid major minor items lent body table
  unfolding decide
  re_reading caller items lent = by_list_again caller (before_list caller appid items lent)
