-- What the exported cleaning promises besides its list: the refusal's number, and demand 3 (document 01, "The list").
use Rattle.std.specs.Prelude.{◌≡◌, ℕ}
use Rattle.ascii.specs.Ascii.{Bytes}
use Rattle.refusals.specs.Number.{refusal_number}
use Rattle.entries.specs.SameKept.{SameKept}
use Rattle.cleaning.specs.Clean.{Cleaned, not_cleaned, cleaned, clean, cleaned_length, output_after}

-- the refusal that is reported, 0 where the list is written
abbrev pub clean_number : Cleaned → ℕ
clean_number (not_cleaned r) = refusal_number r
clean_number (cleaned list) = 0

-- demand 3: every other body with the same kept entries has this refusal, this length and these bytes of the output afterwards
pub record SameOutput (refusal len : ℕ) (before after appid : Bytes) (major minor : ℕ) (body table : Bytes) : Type 0 where
  pub is_refusal : (other : Bytes) → SameKept appid table major minor body other → refusal ≡ clean_number (clean appid major minor other table before)
  pub is_length : (other : Bytes) → SameKept appid table major minor body other → len ≡ cleaned_length (clean appid major minor other table before)
  pub is_output : (other : Bytes) → SameKept appid table major minor body other → after ≡ output_after before (clean appid major minor other table before)
