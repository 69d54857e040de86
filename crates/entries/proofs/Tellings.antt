-- What the answers of reading the AppID, its owner and the selection tell.
use mathlib.Core.Path.{◌≡◌, sym, ap, ◌∙◌}
use mathlib.Core.Bool.{true, false}
use mathlib.Core.List.{List}
use Rattle.std.specs.Prelude.{Option, None, Some, Result, Ok, Err}
use Prim.Native.Nat.{ℕ, ◌≤◌}
use native.Mathlib.Omega.{arith}
use lib.ListN.{length}
use Rattle.ascii.specs.Ascii.{Bytes, ◌when◌, ◌or_else◌, is_none}
use Rattle.suffix.specs.Suffix.{read_table}
use Rattle.origin.specs.Origin.{begins_https}
use Rattle.refusals.specs.declared.Refusal.{Refusal}
use Rattle.refusals.specs.declared.Refusal.TheVariants.{BadAppId, BadTable}
use Rattle.trusted_list.specs.TrustedList.{list_refusal, entries}
use Rattle.trusted_list.specs.code.Slots.{ids_at, Answers, is_refused, is_selected}
use Rattle.trusted_list.proofs.Acceptance.{accepted_selects}
use Rattle.entries.specs.AppId.{is_bad_app_id}
use Rattle.entries.specs.code.Owner.{AppIdIs, is_bad, is_foreign, is_url, Owned, OwnedBy, bad_table, owned}
use Rattle.entries.specs.code.HostEnds.{HostEnds}
use Rattle.entries.specs.code.Reading.{IdsThere, entries_at}
use Rattle.entries.specs.code.Selecting.{listed, Selects, unselected, no_table, selects}
use Rattle.entries.specs.declared.url.Url.{Url}
use Rattle.label_lookup.specs.declared.Owner.{Owner}
use Rattle.entries.specs.declared.selected.Selected.{Selected}

-- ---- the AppID

module _ {appid : Bytes} {a : Result (Option Url) Refusal} (A : AppIdIs appid a) where
  pub told_bad : {x : Refusal} → a ≡ Err x → (is_bad_app_id appid ≡ true) × (BadAppId ≡ x)
  told_bad h = go A h
    where
      go : {a : Result (Option Url) Refusal} {x : Refusal} → AppIdIs appid a → a ≡ Err x → (is_bad_app_id appid ≡ true) × (BadAppId ≡ x)
      go (is_bad b) h = (b, cc)
      go (is_foreign b n) h = let z : ◌≡◌ {A = ℕ} 0 1 = cc in absurd (omega arith)
      go (is_url b y E) h = let z : ◌≡◌ {A = ℕ} 0 1 = cc in absurd (omega arith)

  -- not refused by 2, and whether it begins `https://`
  pub told_foreign : a ≡ Ok None → (is_bad_app_id appid ≡ false) × (begins_https appid ≡ false)
  told_foreign h = go A h
    where
      go : {a : Result (Option Url) Refusal} → AppIdIs appid a → a ≡ Ok None → (is_bad_app_id appid ≡ false) × (begins_https appid ≡ false)
      go (is_bad b) h = let z : ◌≡◌ {A = ℕ} 0 1 = cc in absurd (omega arith)
      go (is_foreign b n) h = (b, n)
      go (is_url b y E) h = let z : ◌≡◌ {A = ℕ} 0 1 = cc in absurd (omega arith)

  module _ {u : Url} (h : a ≡ Ok (Some u)) where
    pub told_url : (is_bad_app_id appid ≡ false) × (begins_https appid ≡ true)
    told_url = go A h
      where
        go : {a : Result (Option Url) Refusal} → AppIdIs appid a → a ≡ Ok (Some u) → (is_bad_app_id appid ≡ false) × (begins_https appid ≡ true)
        go (is_bad b) h = let z : ◌≡◌ {A = ℕ} 0 1 = cc in absurd (omega arith)
        go (is_foreign b n) h = let z : ◌≡◌ {A = ℕ} 0 1 = cc in absurd (omega arith)
        go (is_url b y E) h = (b, y)

    pub told_its : u.appid.now ≡ appid
    told_its = go A h
      where
        go : {a : Result (Option Url) Refusal} → AppIdIs appid a → a ≡ Ok (Some u) → u.appid.now ≡ appid
        go (is_bad b) h = let z : ◌≡◌ {A = ℕ} 0 1 = cc in absurd (omega arith)
        go (is_foreign b n) h = let z : ◌≡◌ {A = ℕ} 0 1 = cc in absurd (omega arith)
        go (is_url {u = v} b y E) h = let x : v ≡ u = cc in ap (λ (w : Url). w.appid.now) (sym x) ∙ E

-- ---- the selection

pub entries_of : (body : Bytes) (ids : ℕ) {xs : List Bytes} → ids_at body ids ≡ Some xs → entries_at body ids ≡ xs
unfolding entries_at
entries_of body ids e = rw e

module _ {major minor : ℕ} {body : Bytes} {q : Result ℕ Refusal} (S : Answers major minor body q) (appid table : Bytes) where
  pub select_unselected : {x : Refusal} → q ≡ Err x → Selects appid major minor body table (Err x)
  select_unselected h = go S h
    where
      go : {q : Result ℕ Refusal} {x : Refusal} → Answers major minor body q → q ≡ Err x → Selects appid major minor body table (Err x)
      go {x} (is_refused {r} e) h = let y : r ≡ x = cc in unselected {x = x} (e ∙ ap Some y)
      go (is_selected e f) h = let z : ◌≡◌ {A = ℕ} 0 1 = cc in absurd (omega arith)

  module _ {p : ℕ} (h : q ≡ Ok p) where
    accepts : list_refusal major minor body ≡ None
    accepts = go S h
      where
        go : {q : Result ℕ Refusal} → Answers major minor body q → q ≡ Ok p → list_refusal major minor body ≡ None
        go (is_refused e) h = let z : ◌≡◌ {A = ℕ} 0 1 = cc in absurd (omega arith)
        go (is_selected e f) h = e

    its_ids : ids_at body p ≡ Some (entries major minor body)
    its_ids = go S h
      where
        go : {q : Result ℕ Refusal} → Answers major minor body q → q ≡ Ok p → ids_at body p ≡ Some (entries major minor body)
        go (is_refused e) h = let z : ◌≡◌ {A = ℕ} 0 1 = cc in absurd (omega arith)
        go (is_selected {p = i} e f) h = let y : i ≡ p = cc in rw (← y) f

    pub select_there : IdsThere body p
    select_there = record { is = its_ids ∙ ap Some (sym (entries_of body p its_ids)) }

    pub select_short : length body ≤ 65536
    select_short = (accepted_selects major minor body accepts).short

    module _ {end : ℕ} {w : Option (Option Owner)} (O : OwnedBy appid end table w) where
      pub select_no_table : w ≡ None → Selects appid major minor body table (Err BadTable)
      select_no_table h = no_table accepts (go O h)
        where
          go : {w : Option (Option Owner)} → OwnedBy appid end table w → w ≡ None → read_table table ≡ None
          go (bad_table t) h = t
          go (owned a b) h = let z : ◌≡◌ {A = ℕ} 0 1 = cc in absurd (omega arith)

      module _ {o : Option Owner} (e : w ≡ Some o) where
        pub select_owned : HostEnds appid end → ∥ Owned appid table o ∥₁
        select_owned E = ∣ go O e E ∣₁
          where
            go : {w : Option (Option Owner)} → OwnedBy appid end table w → w ≡ Some o → HostEnds appid end → Owned appid table o
            go (bad_table t) h E = let z : ◌≡◌ {A = ℕ} 0 1 = cc in absurd (omega arith)
            go (owned {o = i} a b) h E = let x : i ≡ o = cc in rw x at (b E)

        good_table : is_none (read_table table) ≡ false
        good_table = go O e
          where
            go : {w : Option (Option Owner)} → OwnedBy appid end table w → w ≡ Some o → is_none (read_table table) ≡ false
            go (bad_table t) h = let z : ◌≡◌ {A = ℕ} 0 1 = cc in absurd (omega arith)
            go (owned a b) h = a

        pub select_all : {l : Selected} → l.appid.now ≡ appid → l.table.now ≡ table → l.body.now ≡ body → l.ids ≡ p → Selects appid major minor body table (Ok l)
        select_all {l} a t b i = selects {l = l} accepts good_table a t b (rw (b, i) (entries_of body p its_ids))

-- ---- what a consumer takes from it

-- the list that is selected
pub record Chosen (appid : Bytes) (major minor : ℕ) (body table : Bytes) (l : Selected) : Type 0 where
  pub accepted : list_refusal major minor body ≡ None
  pub good : is_none (read_table table) ≡ false
  pub appid_is : l.appid.now ≡ appid
  pub table_is : l.table.now ≡ table
  pub body_is : l.body.now ≡ body
  pub listed_is : listed l ≡ entries major minor body

module _ {appid : Bytes} {major minor : ℕ} {body table : Bytes} {r : Result Selected Refusal} (S : Selects appid major minor body table r) where
  pub selected_refused : {x : Refusal} → r ≡ Err x → (list_refusal major minor body or_else (BadTable when is_none (read_table table))) ≡ Some x
  selected_refused h = go S h
    where
      go : {r : Result Selected Refusal} {x : Refusal} → Selects appid major minor body table r → r ≡ Err x → (list_refusal major minor body or_else (BadTable when is_none (read_table table))) ≡ Some x
      go {x} (unselected {x = y} e) h = let z : y ≡ x = cc in rw (e, z)
      go {x} (no_table e t) h = let z : BadTable ≡ x = cc in rw (e, t, z)
      go (selects e t a b c d) h = let z : ◌≡◌ {A = ℕ} 0 1 = cc in absurd (omega arith)

  pub selected_list : {l : Selected} → r ≡ Ok l → Chosen appid major minor body table l
  selected_list h = go S h
    where
      chosen : (m : Selected) → list_refusal major minor body ≡ None → is_none (read_table table) ≡ false → m.appid.now ≡ appid → m.table.now ≡ table → m.body.now ≡ body → listed m ≡ entries major minor body → Chosen appid major minor body table m
      chosen m e t a b c d = record { accepted = e; good = t; appid_is = a; table_is = b; body_is = c; listed_is = d }

      same : (m l : Selected) → m ≡ l → Chosen appid major minor body table m → Chosen appid major minor body table l
      same m l z C = rw z at C

      go : {r : Result Selected Refusal} {l : Selected} → Selects appid major minor body table r → r ≡ Ok l → Chosen appid major minor body table l
      go (unselected e) h = let z : ◌≡◌ {A = ℕ} 0 1 = cc in absurd (omega arith)
      go (no_table e t) h = let z : ◌≡◌ {A = ℕ} 0 1 = cc in absurd (omega arith)
      go {l} (selects {l = m} e t a b c d) h = let z : m ≡ l = cc in same m l z (chosen m e t a b c d)
