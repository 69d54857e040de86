-- What the exported decision promises besides its number: the place, and demand 3 (document 01, "The list" and "Fetch record and decision").
use Rattle.std.specs.Prelude.{◌≡◌, ℕ, Some}
use Rattle.ascii.specs.Ascii.{Bytes}
use Rattle.origin.specs.Origin.{Authority, web_origin}
use Rattle.entries.specs.SameKept.{SameKept}
use Rattle.decision.specs.Answer.{Answer, rule1, rule2, rule3, rule4, fetch, refused, answer_number}
use Rattle.decision.specs.Decide.{decide}
use Rattle.decision.specs.SameLabel.{SameLabel}

-- what stands in `place` afterwards: rule 4 writes the place of the kept entry, every other answer leaves what was there
abbrev pub place_after : ℕ → Answer → ℕ
place_after before rule1 = before
place_after before rule2 = before
place_after before rule3 = before
place_after before (rule4 n) = n
place_after before fetch = before
place_after before (refused r) = before

-- demand 3: every other body with the same kept entries has this number
pub record SameNumber (number : ℕ) (caller appid : Bytes) (major minor : ℕ) (items lent body table : Bytes) : Type 0 where
  pub is : (other : Bytes) → SameKept appid table major minor body other → number ≡ answer_number (decide caller appid major minor items lent other table)

-- and this place
pub record SamePlace (before after : ℕ) (caller appid : Bytes) (major minor : ℕ) (items lent body table : Bytes) : Type 0 where
  pub is : (other : Bytes) → SameKept appid table major minor body other → after ≡ place_after before (decide caller appid major minor items lent other table)

-- "Allowed by a list means allowed by rule 4": a web caller has the number 4 only if its private label exists and is the AppID's
pub record UnderLabel (number : ℕ) (caller appid table : Bytes) : Type 0 where
  pub is : (origin : Authority) → web_origin caller ≡ Some origin → number ≡ 4 → SameLabel table appid origin.host
