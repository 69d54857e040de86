-- Two bodies that demand 3 compares (document 01, "The list": "Demand 3 compares accepted bodies by their selected entries").
use Rattle.std.specs.Prelude.{◌≡◌, ℕ}
use Rattle.ascii.specs.Ascii.{Bytes}
use Rattle.trusted_list.specs.TrustedList.{entries, Accepted}
use Rattle.entries.specs.Causes.{kept}

-- both accepted for the wanted version; their selected lists have the same kept entries, equal as decoded bytes and in the same order.
-- Their discarded entries may be any, and whatever else the two bodies hold may differ.
pub record SameKept (appid table : Bytes) (major minor : ℕ) (body₁ body₂ : Bytes) : Type 0 where
  pub accepted₁ : Accepted major minor body₁
  pub accepted₂ : Accepted major minor body₂
  pub same_kept : kept appid table (entries major minor body₁) ≡ kept appid table (entries major minor body₂)
