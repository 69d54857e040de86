-- The normal form of a kept entry is kept: what cleaning writes is kept when it is read again. Assumes nothing.
use mathlib.Core.Path.{◌≡◌, refl, ap, ◌∙◌}
use mathlib.Core.List.{List, map}
use mathlib.Core.Bool.{true}
use Rattle.std.specs.Prelude.{Option, None, Some, option_map}
use Prim.Native.Nat.{◌<◌}
use native.Mathlib.Omega.{arith}
use lib.ListN.{length}
use borrow.Author.Tests.{leb-false, lt-leb}
use Rattle.ascii.specs.Ascii.{Bytes, all, lower, same_no_case}
use Rattle.ascii.proofs.ListLaws.{all_mapped}
use Rattle.suffix.proofs.Case.{private_label_lem}
use Rattle.origin.specs.Origin.{Authority, web_origin, normal_form}
use Rattle.origin.proofs.Origins.{web_begins}
use Rattle.normal_forms.specs.code.Normals.{normal_authority, is_plain_byte}
use Rattle.normal_forms.proofs.NormalForms.{own_normal, normal_short, lower_twice, origin_normal, host_normal, facet_normal}
use Rattle.normal_forms.proofs.PlainBytes.{facet_plain}
use Rattle.entries.specs.Causes.{labels_agree, is_other_label, kept}
use Rattle.entries.proofs.KeptTests.{is_kept, kept_passes, passes_kept, kept_each, kept_id}

-- ---- cause 4 does not see the normal form

agree_lower : (x m : Option Bytes) → labels_agree (option_map lower x) m ≡ labels_agree x m
unfolding labels_agree same_no_case
agree_lower None None = refl
agree_lower None (Some m) = refl
agree_lower (Some l) None = refl
agree_lower (Some l) (Some m) = rw lower_twice

label_normal : (appid table e : Bytes) → is_other_label appid table (web_origin (normal_form e)) ≡ is_other_label appid table (web_origin e)
unfolding is_other_label
label_normal appid table e = go (web_origin e) refl
  where
    go : (o : Option Authority) → web_origin e ≡ o → is_other_label appid table (web_origin (normal_form e)) ≡ is_other_label appid table (web_origin e)
    go None p = ap (λ (s : Bytes). is_other_label appid table (web_origin s)) (own_normal e p)
    go (Some a) p = rw (origin_normal e a p, p, host_normal a, private_label_lem table a.host, agree_lower)

-- ---- the normal form of a kept entry

pub kept_normal : (appid table e : Bytes) → is_kept appid table e ≡ true → is_kept appid table (normal_form e) ≡ true
kept_normal appid table e h = go (web_origin e) refl
  where
    go : (o : Option Authority) → web_origin e ≡ o → is_kept appid table (normal_form e) ≡ true
    go None p = rw (own_normal e p) h
    go (Some a) p =
        let P = kept_passes appid table e h in
        let long : length e < 513 = leb-false 513 (length e) P.short in
        passes_kept appid table (normal_form e) (record {
          short = lt-leb 513 (length (normal_form e)) (omega (arith, normal_short e));
          scheme = rw (web_begins (normal_form e) (normal_authority a) (origin_normal e a p));
          facet = facet_normal e P.facet;
          label = label_normal appid table e ∙ P.label;
        })

module _ (appid table : Bytes) (es : List Bytes) where
  normals_kept : all (is_kept appid table) (map normal_form (kept appid table es)) ≡ true
  normals_kept = all_mapped (is_kept appid table) (is_kept appid table) normal_form (kept_normal appid table) (kept appid table es) (kept_each appid table es)

  -- normal forms of kept entries are kept, all of them and in order
  pub kept_normals : kept appid table (map normal_form (kept appid table es)) ≡ map normal_form (kept appid table es)
  kept_normals = kept_id appid table (map normal_form (kept appid table es)) normals_kept

  -- nothing kept ever needs an escape
  pub normals_plain : all (all is_plain_byte) (map normal_form (kept appid table es)) ≡ true
  normals_plain = all_mapped (is_kept appid table) (all is_plain_byte) normal_form (λ e h. facet_plain e (kept_passes appid table e h).facet) (kept appid table es) (kept_each appid table es)
