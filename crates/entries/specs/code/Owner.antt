-- What the code holds of the AppID.
use Rattle.std.specs.Prelude.{◌≡◌, Bool, ℕ, true, false, not, Option, None, Some, Result, Ok, Err}
use Rattle.ascii.specs.Ascii.{Bytes, is_none}
use Rattle.hosts.specs.Host.{is_host}
use Rattle.suffix.specs.Suffix.{read_table, private_label}
use Rattle.label_lookup.specs.code.Span.{Owns}
use Rattle.label_lookup.specs.declared.Owner.{Owner}
use Rattle.origin.specs.Origin.{begins_https}
use Rattle.entries.specs.AppId.{is_bad_app_id, app_label}
use Rattle.entries.specs.Causes.{labels_agree, cause}
use Rattle.entries.specs.declared.Cause.{Cause}
use Rattle.entries.specs.code.HostEnds.{HostEnds}
use Rattle.refusals.specs.declared.Refusal.{Refusal}
use Rattle.refusals.specs.declared.Refusal.TheVariants.{BadAppId}
use Rattle.entries.specs.declared.url.Url.{Url}

-- ---- the AppID

pub data AppIdIs (appid : Bytes) : Result (Option Url) Refusal → Type 0 where
  is_bad : is_bad_app_id appid ≡ true → AppIdIs appid (Err BadAppId)
  is_foreign : is_bad_app_id appid ≡ false → begins_https appid ≡ false → AppIdIs appid (Ok None)
  is_url : {u : Url} → is_bad_app_id appid ≡ false → begins_https appid ≡ true → u.appid.now ≡ appid → AppIdIs appid (Ok (Some u))

-- o is what is held of a host whose private label is the AppID's; none where it has none
pub record Owned (appid table : Bytes) (o : Option Owner) : Type 0 where
  pub host : Bytes
  pub label_is : private_label table host ≡ app_label table appid
  pub is : Owns table host o

-- refusal 13; or what is held of the AppID's label, where its host ends at this place
pub data OwnedBy (appid : Bytes) (end : ℕ) (table : Bytes) : Option (Option Owner) → Type 0 where
  bad_table : read_table table ≡ None → OwnedBy appid end table None
  owned : {o : Option Owner} → is_none (read_table table) ≡ false → (HostEnds appid end → Owned appid table o) → OwnedBy appid end table (Some o)

-- ---- answers that hold for every AppID for which this is held

-- r tells whether the host has no private label, or another one than the AppID
pub record Differs (table : Bytes) (o : Option Owner) (host : Bytes) (r : Bool) : Type 0 where
  pub is : (appid : Bytes) → ∥ Owned appid table o ∥₁ → is_host host ≡ true → r ≡ not (labels_agree (private_label table host) (app_label table appid))

-- r is the first cause that holds of the entry; none: it is kept
pub record Judges (table : Bytes) (o : Option Owner) (entry : Bytes) (r : Option Cause) : Type 0 where
  pub is : (appid : Bytes) → ∥ Owned appid table o ∥₁ → r ≡ cause appid table entry
