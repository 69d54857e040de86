-- Whatever the inputs: no web caller is allowed by rule 4 unless its private label exists and equals the AppID's, without regard
-- to ASCII case ("allowed by a list means allowed by rule 4", document 01, "The list"). Assumes nothing.
use Rattle.std.specs.Prelude.{if◌then◌else◌, Option, None, Some, option_map, Ok, Err}
use mathlib.Core.Path.{◌≡◌, refl, sym, ap, ◌∙◌}
use mathlib.Core.List.{List, [], ◌∷◌}
use mathlib.Core.Bool.{Bool, true, false, ◌&&◌, not, and-eq-true_iff}
use Prim.Native.Nat.{ℕ, suc}
use native.Mathlib.Omega.{arith}
use borrow.Author.Tests.{not-false}
use Rattle.ascii.specs.Ascii.{Bytes, ◌>>=◌, is_empty, all, same, lower, same_no_case}
use Rattle.suffix.specs.Suffix.{private_label}
use Rattle.suffix.proofs.Case.{private_label_lem}
use Rattle.origin.specs.Origin.{Authority, begins_https, https_url, web_origin, is_facet}
use Rattle.matching.specs.Matching.{same_host, same_origin, facet_matches}
use Rattle.matching.proofs.Compared.{same_origin_host}
use Rattle.ascii.proofs.Compare.{same_eq}
use Rattle.refusals.specs.declared.Refusal.{Refusal}
use Rattle.trusted_list.specs.TrustedList.{entries}
use Rattle.fetch_record.specs.Fetching.{Fetching, fetching}
use Rattle.entries.specs.Causes.{labels_agree, is_other_label, kept}
use Rattle.entries.proofs.KeptTests.{is_kept, kept_passes, kept_each}
use Rattle.decision.specs.SameLabel.{SameLabel}
use Rattle.decision.specs.Answer.{rule1, rule2, rule3, rule4, fetch, refused}
use Rattle.entries.specs.AppId.{is_bad_app_id, app_label}
use Rattle.decision.specs.Decide.{Stage, settled, list_due, by_fetch, before_list, first_match, late_refusal, by_place, unless, by_list, decide}

-- ---- before the list nothing answers rule 4

abbrev pub NoRule4 : Stage → Type 0
NoRule4 (list_due a) = Unit {0}
NoRule4 (settled rule1) = Unit {0}
NoRule4 (settled rule2) = Unit {0}
NoRule4 (settled rule3) = Unit {0}
NoRule4 (settled fetch) = Unit {0}
NoRule4 (settled (rule4 n)) = ⊥
NoRule4 (settled (refused r)) = Unit {0}

either : (P : Stage → Type 0) (t : Bool) {x y : Stage} → P x → P y → P (if t then x else y)
either P true p q = p
either P false p q = q

on_fetch : (f : Fetching) → NoRule4 (by_fetch f)
unfolding by_fetch
on_fetch (Err r) = tt
on_fetch (Ok None) = tt
on_fetch (Ok (Some a)) = tt

pub before_list_lem : (caller appid items lent : Bytes) → NoRule4 (before_list caller appid items lent)
unfolding before_list
before_list_lem caller appid items lent =
    either NoRule4 (not (is_facet caller)) tt
    (either NoRule4 (is_bad_app_id appid) tt
    (either NoRule4 (is_empty appid) tt
    (either NoRule4 (not (begins_https appid) && same appid caller) tt
    (either NoRule4 (not (begins_https appid)) tt
    (either NoRule4 (same_host (web_origin caller) (https_url appid)) tt
    (on_fetch (fetching items lent)))))))

-- ---- the first match is an element that matches, and has what every element has

pub record Found (caller : Bytes) (p : Bytes → Bool) : Type 0 where
  pub entry : Bytes
  pub passes : p entry ≡ true
  pub matches : facet_matches caller entry ≡ true

pub first_found : (caller : Bytes) (p : Bytes → Bool) (l : List Bytes) (n : ℕ) → all p l ≡ true → first_match caller l ≡ Some n → Found caller p
unfolding first_match all
first_found caller p [] n h q = let z : ◌≡◌ {A = ℕ} 0 1 = cc in absurd (omega arith)
first_found caller p (e ∷ l) n h q = let k = (and-eq-true_iff (p e) (all p l)).0 h in go k.0 (facet_matches caller e) refl (first_match caller l) refl q (λ m. first_found caller p l m k.1)
  where
    go : p e ≡ true → (u : Bool) → facet_matches caller e ≡ u → (o : Option ℕ) → first_match caller l ≡ o → (if u then Some 0 else (o >>= λ m. Some (suc m))) ≡ Some n
        → ((m : ℕ) → first_match caller l ≡ Some m → Found caller p) → Found caller p
    go k true m o r w ih = record { entry = e; passes = k; matches = m }
    go k false m None r w ih = let z : ◌≡◌ {A = ℕ} 0 1 = cc in absurd (omega arith)
    go k false m (Some j) r w ih = ih j r

-- ---- labels

agree_same : (table appid host : Bytes) → labels_agree (private_label table host) (app_label table appid) ≡ true → SameLabel table appid host
unfolding labels_agree
agree_same table appid host h = go (private_label table host) (app_label table appid) refl refl h
  where
    go : (x y : Option Bytes) → private_label table host ≡ x → app_label table appid ≡ y → labels_agree x y ≡ true → SameLabel table appid host
    go None None p q r = let z : ◌≡◌ {A = ℕ} 0 1 = cc in absurd (omega arith)
    go None (Some m) p q r = let z : ◌≡◌ {A = ℕ} 0 1 = cc in absurd (omega arith)
    go (Some l) None p q r = let z : ◌≡◌ {A = ℕ} 0 1 = cc in absurd (omega arith)
    go (Some l) (Some m) p q r = record { label = l; appid_label = m; exists = p; app_exists = q; equal = r }

agree_case : (x y m : Option Bytes) → option_map lower x ≡ option_map lower y → labels_agree x m ≡ true → labels_agree y m ≡ true
unfolding labels_agree same_no_case
agree_case None None m p h = h
agree_case None (Some l) m p h = let z : ◌≡◌ {A = ℕ} 0 1 = cc in absurd (omega arith)
agree_case (Some k) None m p h = let z : ◌≡◌ {A = ℕ} 0 1 = cc in absurd (omega arith)
agree_case (Some k) (Some l) None p h = h
agree_case (Some k) (Some l) (Some m) p h = let q : lower k ≡ lower l = cc in rw (← q) h

-- hosts that are equal without regard to case have labels that are
label_case : (table g h : Bytes) → same_no_case g h ≡ true → option_map lower (private_label table g) ≡ option_map lower (private_label table h)
unfolding same_no_case
label_case table g h e = sym (private_label_lem table g) ∙ ap (private_label table) (same_eq (lower g) (lower h) e) ∙ private_label_lem table h

-- ---- the theorem

module _ (caller appid table : Bytes) (origin : Authority) (web : web_origin caller ≡ Some origin) where
  -- a kept entry that matches has a host equal to the caller's, and the AppID's label
  entry_label : Found caller (is_kept appid table) → SameLabel table appid origin.host
  unfolding facet_matches same_origin is_other_label
  entry_label F = go (web_origin F.entry) (kept_passes appid table F.entry F.passes).label (rw (web, facet_matches) at F.matches)
    where
      go : (o : Option Authority) → is_other_label appid table o ≡ false → same_origin (Some origin) o ≡ true → SameLabel table appid origin.host
      go None p q = let z : ◌≡◌ {A = ℕ} 0 1 = cc in absurd (omega arith)
      go (Some b) p q =
          agree_same table appid origin.host
          (agree_case (private_label table b.host) (private_label table origin.host) (app_label table appid)
          (sym (label_case table origin.host b.host (same_origin_host origin b q))) (not-false _ p))

  by_list_label : (major minor : ℕ) (body : Bytes) (stage : Stage) (n : ℕ) → NoRule4 stage → by_list caller appid major minor body table stage ≡ rule4 n → SameLabel table appid origin.host
  unfolding by_list
  by_list_label major minor body (settled a) n s e = absurd (rw e at s)
  by_list_label major minor body (list_due r) n s e = go (late_refusal r major minor body table) (first_match caller (kept appid table (entries major minor body))) refl e
    where
      go : (x : Option Refusal) (o : Option ℕ) → first_match caller (kept appid table (entries major minor body)) ≡ o → unless x (by_place o) ≡ rule4 n → SameLabel table appid origin.host
      go (Some x) o f p = let z : ◌≡◌ {A = ℕ} 0 1 = cc in absurd (omega arith)
      go None None f p = let z : ◌≡◌ {A = ℕ} 0 1 = cc in absurd (omega arith)
      go None (Some k) f p = entry_label (first_found caller (is_kept appid table) (kept appid table (entries major minor body)) k (kept_each appid table (entries major minor body)) f)

  -- a web caller that rule 4 allows has the AppID's private label
  pub rule4_label : (major minor : ℕ) (items lent body : Bytes) (n : ℕ) → decide caller appid major minor items lent body table ≡ rule4 n → SameLabel table appid origin.host
  unfolding decide
  rule4_label major minor items lent body n e = by_list_label major minor body (before_list caller appid items lent) n (before_list_lem caller appid items lent) e
