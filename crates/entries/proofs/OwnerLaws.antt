-- The AppID, read once; its label, found once, settles cause 4 for every entry.
use Rattle.std.specs.Prelude.{if◌then◌else◌, Option, None, Some, is_some, option_map, Ok, Err}
use Rattle.std.proofs.Math.Logic.{∥∥₁_elim}
use Rattle.std.proofs.Props.{props}
use mathlib.Core.Path.{◌≡◌, refl, sym, ap, ◌∙◌}
use mathlib.Core.Bool.{Bool, true, false, ◌||◌, not}
use Prim.Native.Nat.{ℕ, ◌+◌, ◌-◌, ◌≤◌, ◌<◌}
use native.Mathlib.Omega.{arith}
use lib.ListN.{length, take, drop}
use lib.Dec.{leb, ltb}
use borrow.Author.Tests.{lt-ltb, le-ltb, leb-true}
use Rattle.ascii.specs.Ascii.{Bytes, ◌>>=◌}
use Rattle.hosts.specs.Host.{is_host}
use Rattle.hosts.specs.code.Place.{ends_at_label}
use Rattle.suffix.specs.Suffix.{private_label}
use Rattle.suffix.specs.code.Deeper.{is_the_label}
use Rattle.label_lookup.specs.code.Span.{OwnerFound, Owns, no_label, has_label, OwnerIs, bad_table as no_table, owner_is}
use Rattle.label_lookup.specs.declared.Deeper.{Deeper}
use Rattle.label_lookup.specs.declared.Owner.{Owner}
use Rattle.refusals.specs.declared.Refusal.TheVariants.{BadAppId}
use Rattle.entries.specs.declared.url.Url.{Url}
use Rattle.suffix.proofs.Speed.{one_label}
use Rattle.deeper_rules.specs.code.Findings.{Tells}
use Rattle.origin.specs.Origin.{Authority, begins_https, read_https, is_tail, https_url}
use Rattle.origin.specs.code.Parts.{part, authority_in, Reads}
use Rattle.origin.specs.declared.Parts.{Parts}
use Rattle.origin.proofs.Readings.{found, is_none_lem}
use Rattle.entries.specs.AppId.{is_bad_app_id, app_label}
use Rattle.entries.specs.Causes.{labels_agree}
use Rattle.entries.specs.code.Owner.{AppIdIs, is_bad, is_foreign, is_url, Owned, OwnedBy, bad_table, owned}
use Rattle.entries.specs.code.HostEnds.{HostEnds}

-- ---- the AppID

or_true : (t : Bool) → (t || true) ≡ true
or_true true = refl
or_true false = refl

-- an HTTPS URL has at most 2,048 bytes
url_short : (a : Bytes) {u : Authority} → https_url a ≡ Some u → ltb 2048 (length a) ≡ false
unfolding https_url
url_short a {u} e = go (read_https a >>= λ x. if is_tail x.tail then Some x else None) (leb (length a) 2048) refl e
  where
    go : (o : Option Authority) (t : Bool) → leb (length a) 2048 ≡ t → (if t then o else None) ≡ Some u → ltb 2048 (length a) ≡ false
    go o true f e = le-ltb 2048 (length a) (leb-true (length a) 2048 f)
    go o false f e = let z : ◌≡◌ {A = ℕ} 0 1 = cc in absurd (omega arith)

module _ (a : Bytes) where
  pub appid_long : {n : ℕ} → n < length a → 2048 ≤ n → AppIdIs a (Err BadAppId)
  appid_long h k = is_bad (go (omega arith))
    where
      go : 2048 < length a → is_bad_app_id a ≡ true
      go h = unfold is_bad_app_id in (rw (lt-ltb 2048 (length a) h))

  module _ {b : Bool} (g : b ≡ begins_https a) where
    pub appid_other : length a ≤ 2048 → b ≡ false → AppIdIs a (Ok None)
    appid_other l h = is_foreign (go l h) (sym g ∙ h)
      where
        go : length a ≤ 2048 → b ≡ false → is_bad_app_id a ≡ false
        go l h = unfold is_bad_app_id in (rw (le-ltb 2048 (length a) l, sym g ∙ h))

    module _ (h : b ≡ true) {q : Option Parts} (R : Reads a (https_url a) q) where
      pub appid_no_url : q ≡ None → AppIdIs a (Err BadAppId)
      appid_no_url n = is_bad (go (is_none_lem R n))
        where
          go : None ≡ https_url a → is_bad_app_id a ≡ true
          go e = unfold is_bad_app_id in (rw (sym g ∙ h, ← e) (or_true (ltb 2048 (length a))))

      module _ {p : Parts} (f : q ≡ Some p) where
        appid_found : Reads a (https_url a) (Some p)
        appid_found = found R f

        found_url : Authority
        found_url = record { host = part a 8 p.end; port = part a (p.end + 1) p.tail; tail = drop p.tail a }

        is_found : https_url a ≡ Some found_url
        unfolding authority_in found_url
        is_found = sym appid_found.is

        pub host_ends : HostEnds a p.end
        unfolding found_url
        host_ends = record { is = ap (option_map (λ (u : Authority). u.host)) is_found }

        pub appid_url : {u : Url} → u.appid.now ≡ a → AppIdIs a (Ok (Some u))
        appid_url {u} e = is_url {u = u} good (sym g ∙ h) e
          where
            good : is_bad_app_id a ≡ false
            good = unfold is_bad_app_id in (rw (url_short a is_found, sym g ∙ h, is_found))

-- ---- its owner

module _ (s : Bytes) (end : ℕ) (table : Bytes) {host : Bytes} {w : Option (Option Owner)} (O : OwnerIs table host w) where
  pub owner_kept : host ≡ take (end - 8) (drop 8 s) → OwnedBy s end table w
  owner_kept H = go O
    where
      at_host : part s 8 end ≡ host
      at_host = unfold part in (sym H)

      of_host : (o : Option Authority) → option_map (λ u. u.host) o ≡ Some (part s 8 end) → private_label table host ≡ (o >>= λ u. private_label table u.host)
      of_host None e = let z : ◌≡◌ {A = ℕ} 0 1 = cc in absurd (omega arith)
      of_host (Some u) e = let z : u.host ≡ part s 8 end = cc in ap (private_label table) (sym (z ∙ at_host))

      own : HostEnds s end → private_label table host ≡ app_label table s
      own E = unfold app_label in (of_host (https_url s) E.is)

      go : {w : Option (Option Owner)} → OwnerIs table host w → OwnedBy s end table w
      go (no_table t) = bad_table t
      go (owner_is g P) = owned g (λ E. record { host = host; label_is = own E; is = P })

-- ---- cause 4 of one host

agree_none : (o : Option Bytes) → labels_agree o None ≡ false
unfolding labels_agree
agree_none None = refl
agree_none (Some l) = refl

agree_some : (label : Bytes) (o : Option Bytes) → labels_agree o (Some label) ≡ is_the_label label o
unfolding labels_agree is_the_label
agree_some label None = refl
agree_some label (Some l) = refl

no_owner : {table host : Bytes} {o : Option Owner} → Owns table host o → o ≡ None → private_label table host ≡ None
no_owner (no_label p) e = p
no_owner (has_label F) e = let z : ◌≡◌ {A = ℕ} 0 1 = cc in absurd (omega arith)

its_owner : {table host : Bytes} {o : Option Owner} {w : Owner} → Owns table host o → o ≡ Some w → OwnerFound table host w
its_owner (no_label p) e = let z : ◌≡◌ {A = ℕ} 0 1 = cc in absurd (omega arith)
its_owner {w} (has_label {o = x} F) e = let z : x ≡ w = cc in rw z at F

module _ (appid table host : Bytes) {o : Option Owner} (W : ∥ Owned appid table o ∥₁) where
  pub other_none : {r : Bool} → r ≡ true → o ≡ None → r ≡ not (labels_agree (private_label table host) (app_label table appid))
  other_none t n = t ∙ ∥∥₁_elim W (Prim.hlevel props) (λ O. rw (sym O.label_is ∙ no_owner O.is n, agree_none (private_label table host)))

  module _ (h : is_host host ≡ true) {w : Owner} (f : o ≡ Some w) {q : Bool} where
    by : (Owned appid table o → q ≡ is_the_label w.label.now (private_label table host)) → not q ≡ not (labels_agree (private_label table host) (app_label table appid))
    by T = ∥∥₁_elim W (Prim.hlevel props) (λ O. ap not (T O ∙ sym (agree_some w.label.now (private_label table host))) ∙ ap (λ (l : Option Bytes). not (labels_agree (private_label table host) l)) (sym (its_owner O.is f).label_is ∙ O.label_is))

    pub other_deeper : {held : Deeper} → w.deeper ≡ Some held → Tells table w.label.now held host q → not q ≡ not (labels_agree (private_label table host) (app_label table appid))
    other_deeper {held} d T = by (λ O. T.is O.host ((its_owner O.is f).held held d) h)

    pub other_end : w.deeper ≡ None → q ≡ ends_at_label w.label.now host → not q ≡ not (labels_agree (private_label table host) (app_label table appid))
    other_end d e = by (λ O. let F = its_owner O.is f in e ∙ sym (one_label table O.host w.label.now F.label_is host h (sym F.present_is ∙ ap is_some d)))
