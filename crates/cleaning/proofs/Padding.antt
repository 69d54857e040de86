-- Demand 3 of cleaning: discarded entries change nothing of what is written (document 01, "The list").
use mathlib.Core.Path.{◌≡◌, ap}
use Prim.Native.Nat.{ℕ}
use Rattle.ascii.specs.Ascii.{Bytes}
use Rattle.entries.specs.SameKept.{SameKept}
use Rattle.cleaning.specs.Clean.{clean_refusal, cleaned_list, clean, cleaned_length, output_after}

module _ (appid table : Bytes) (major minor : ℕ) (body₁ body₂ : Bytes) (S : SameKept appid table major minor body₁ body₂) (before : Bytes) where
  -- the refusal, or the list that is written
  pub padding_clean : clean appid major minor body₁ table before ≡ clean appid major minor body₂ table before
  unfolding clean clean_refusal cleaned_list
  padding_clean = rw (S.accepted₁, S.accepted₂, S.same_kept)

  -- the length that is reported
  pub padding_length : cleaned_length (clean appid major minor body₁ table before) ≡ cleaned_length (clean appid major minor body₂ table before)
  padding_length = ap cleaned_length padding_clean

  -- every byte of the output afterwards
  pub padding_output : output_after before (clean appid major minor body₁ table before) ≡ output_after before (clean appid major minor body₂ table before)
  padding_output = ap (output_after before) padding_clean
