-- Demand 3 of the decision: discarded entries change nothing of the answer (document 01, "The list").
use mathlib.Core.Path.{◌≡◌, refl}
use Prim.Native.Nat.{ℕ}
use Rattle.ascii.specs.Ascii.{Bytes}
use Rattle.decision.specs.Decide.{Stage, settled, list_due, before_list, late_refusal, by_list, decide}
use Rattle.entries.specs.SameKept.{SameKept}

module _ (appid table : Bytes) (major minor : ℕ) (body₁ body₂ : Bytes) (S : SameKept appid table major minor body₁ body₂) where
  same_by_list : (caller : Bytes) (stage : Stage) → by_list caller appid major minor body₁ table stage ≡ by_list caller appid major minor body₂ table stage
  unfolding by_list late_refusal
  same_by_list caller (settled a) = refl
  same_by_list caller (list_due response) = rw (S.accepted₁, S.accepted₂, S.same_kept)

  -- the whole answer is the same for every caller, record and text: rule and place, fetch, or refusal
  pub padding_decision : (caller items lent : Bytes) → decide caller appid major minor items lent body₁ table ≡ decide caller appid major minor items lent body₂ table
  unfolding decide
  padding_decision caller items lent = same_by_list caller (before_list caller appid items lent)
