-- What is refused before the list is written: one law for each way through the code.
use mathlib.Core.Path.{◌≡◌, refl, sym, ap, ◌∙◌}
use mathlib.Core.Bool.{Bool, true, false, not}
use Rattle.std.specs.Prelude.{Option, None, Some, Result, Ok, Err}
use Prim.Native.Nat.{ℕ}
use native.Mathlib.Omega.{arith}
use Rattle.ascii.specs.Ascii.{Bytes, ◌when◌, ◌or_else◌, is_none}
use Rattle.suffix.specs.Suffix.{read_table}
use Rattle.origin.specs.Origin.{begins_https}
use Rattle.refusals.specs.declared.Refusal.{Refusal}
use Rattle.refusals.specs.declared.Refusal.TheVariants.{BadAppId, ForeignAppId, BadTable}
use Rattle.trusted_list.specs.TrustedList.{list_refusal, entries}
use Rattle.entries.specs.AppId.{is_bad_app_id}
use Rattle.entries.specs.code.Owner.{AppIdIs}
use Rattle.entries.specs.code.Selecting.{Selects}
use Rattle.entries.specs.declared.url.Url.{Url}
use Rattle.entries.specs.declared.selected.Selected.{Selected}
use Rattle.entries.proofs.Tellings.{told_bad, told_foreign, told_url, told_its, Chosen, selected_refused, selected_list}
use Rattle.cleaning.specs.Clean.{clean_refusal}
use Rattle.cleaning.specs.code.Meaning.{ListedAs, Prepares, is_refused, is_listed}

module _ (appid : Bytes) (major minor : ℕ) (body table : Bytes) {a : Result (Option Url) Refusal} (A : AppIdIs appid a) where
  pub prepare_bad : {x : Refusal} → a ≡ Err x → Prepares appid major minor body table (Err x)
  prepare_bad {x} h = is_refused {x = x} (go (told_bad A h).0 ∙ ap Some (told_bad A h).1)
    where
      go : is_bad_app_id appid ≡ true → clean_refusal appid major minor body table ≡ Some BadAppId
      go e = unfold clean_refusal in (rw e)

  pub prepare_foreign : a ≡ Ok None → Prepares appid major minor body table (Err ForeignAppId)
  prepare_foreign h = is_refused (go (told_foreign A h).0 (told_foreign A h).1)
    where
      go : is_bad_app_id appid ≡ false → begins_https appid ≡ false → clean_refusal appid major minor body table ≡ Some ForeignAppId
      go e f = unfold clean_refusal in (rw (e, f))

  module _ {u : Url} (h : a ≡ Ok (Some u)) where
    from_list : clean_refusal appid major minor body table ≡ (list_refusal major minor body or_else (BadTable when is_none (read_table table)))
    from_list = go (told_url A h).0 (told_url A h).1
      where
        go : is_bad_app_id appid ≡ false → begins_https appid ≡ true → clean_refusal appid major minor body table ≡ (list_refusal major minor body or_else (BadTable when is_none (read_table table)))
        go e f = unfold clean_refusal in (rw (e, f))

    pub prepare_selected : {r : Result Selected Refusal} → Selects u.appid.now major minor body table r → Prepares appid major minor body table r
    prepare_selected S = go (rw (told_its A h) at S)
      where
        chosen : {l : Selected} → Chosen appid major minor body table l → Prepares appid major minor body table (Ok l)
        chosen {l} C = is_listed {l = l} (from_list ∙ rw (C.accepted, C.good)) (record { accepted = rw C.body_is C.accepted; is = C.listed_is ∙ ap (entries major minor) (sym C.body_is) }) C.appid_is C.table_is C.body_is

        go : {r : Result Selected Refusal} → Selects appid major minor body table r → Prepares appid major minor body table r
        go {r} S = by r refl
          where
            by : (q : Result Selected Refusal) → r ≡ q → Prepares appid major minor body table r
            by (Err x) e = rw e (is_refused {x = x} (from_list ∙ selected_refused S e))
            by (Ok l) e = rw e (chosen (selected_list S e))

-- ---- what the callers take from it

pub refusal_accepts : (appid : Bytes) (major minor : ℕ) (body table : Bytes) → clean_refusal appid major minor body table ≡ None → list_refusal major minor body ≡ None
unfolding clean_refusal
refusal_accepts appid major minor body table e = go (is_bad_app_id appid) (begins_https appid) (list_refusal major minor body) e
  where
    go : (a b : Bool) (o : Option Refusal) → ((BadAppId when a) or_else (ForeignAppId when not b) or_else o or_else (BadTable when is_none (read_table table))) ≡ None → o ≡ None
    go true b o e = let z : ◌≡◌ {A = ℕ} 0 1 = cc in absurd (omega arith)
    go false false o e = let z : ◌≡◌ {A = ℕ} 0 1 = cc in absurd (omega arith)
    go false true None e = refl
    go false true (Some x) e = let z : ◌≡◌ {A = ℕ} 0 1 = cc in absurd (omega arith)

-- the list that is selected, where nothing is refused
pub record Ready (appid : Bytes) (major minor : ℕ) (body table : Bytes) (l : Selected) : Type 0 where
  pub none_fits : clean_refusal appid major minor body table ≡ None
  pub listed_as : ListedAs major minor l
  pub appid_is : l.appid.now ≡ appid
  pub table_is : l.table.now ≡ table
  pub body_is : l.body.now ≡ body

module _ {appid : Bytes} {major minor : ℕ} {body table : Bytes} {w : Result Selected Refusal} (P : Prepares appid major minor body table w) where
  pub prepared_refusal : {x : Refusal} → w ≡ Err x → clean_refusal appid major minor body table ≡ Some x
  prepared_refusal h = go P h
    where
      go : {w : Result Selected Refusal} {x : Refusal} → Prepares appid major minor body table w → w ≡ Err x → clean_refusal appid major minor body table ≡ Some x
      go (is_refused e) h = e ∙ ap Some cc
      go (is_listed e L a t b) h = let z : ◌≡◌ {A = ℕ} 0 1 = cc in absurd (omega arith)

  pub prepared_list : {l : Selected} → w ≡ Ok l → Ready appid major minor body table l
  prepared_list h = go P h
    where
      ready : (m : Selected) → clean_refusal appid major minor body table ≡ None → ListedAs major minor m → m.appid.now ≡ appid → m.table.now ≡ table → m.body.now ≡ body → Ready appid major minor body table m
      ready m e L a t b = record { none_fits = e; listed_as = L; appid_is = a; table_is = t; body_is = b }

      go : {w : Result Selected Refusal} {l : Selected} → Prepares appid major minor body table w → w ≡ Ok l → Ready appid major minor body table l
      go (is_refused e) h = let z : ◌≡◌ {A = ℕ} 0 1 = cc in absurd (omega arith)
      go {l} (is_listed {l = m} e L a t b) h = let z : m ≡ l = cc in rw z at (ready m e L a t b)

  pub prepared_as : {l : Selected} → w ≡ Ok l → ListedAs major minor l
  prepared_as h = (prepared_list h).listed_as
