-- Cleaning the cleaned list gives the same bytes. Assumes nothing of the table or the AppID.
use mathlib.Core.Path.{◌≡◌, refl, ap, ap₂, ◌∙◌}
use mathlib.Core.List.{List, [], ◌∷◌, map}
use Prim.Native.Nat.{ℕ}
use Rattle.ascii.specs.Ascii.{Bytes}
use Rattle.origin.specs.Origin.{normal_form}
use Rattle.normal_forms.proofs.NormalForms.{normal_twice}
use Rattle.trusted_list.specs.TrustedList.{entries, Accepted}
use Rattle.entries.specs.Causes.{kept}
use Rattle.cleaning.specs.Clean.{render, cleaned_list, clean_refusal, clean}
use Rattle.cleaning.proofs.Rereading.{cleaned_accepted, kept_again}

normals_twice : (es : List Bytes) → map normal_form (map normal_form es) ≡ map normal_form es
normals_twice [] = refl
normals_twice (e ∷ es) = ap₂ ◌∷◌ (normal_twice e) (normals_twice es)

module _ (appid table : Bytes) (major minor : ℕ) (body : Bytes) (accepted : Accepted major minor body) where
  pub list_twice : cleaned_list appid major minor (cleaned_list appid major minor body table) table ≡ cleaned_list appid major minor body table
  unfolding cleaned_list
  list_twice =
      ap (λ (es : List Bytes). render major minor (map normal_form es)) (kept_again appid table major minor body accepted)
      ∙ ap (render major minor) (normals_twice (kept appid table (entries major minor body)))

  -- with the same AppID, version, table and output: the same refusal or the same list
  pub clean_twice : (before : Bytes) → clean appid major minor (cleaned_list appid major minor body table) table before ≡ clean appid major minor body table before
  unfolding clean clean_refusal
  clean_twice before = rw (list_twice, cleaned_accepted appid table major minor body accepted, accepted)
