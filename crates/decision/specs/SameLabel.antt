-- "its private label exists and is the AppID's" (demand 3; document 01, "Hosts and private labels").
use Rattle.std.specs.Prelude.{◌≡◌, true, Some}
use Rattle.ascii.specs.Ascii.{Bytes, same_no_case}
use Rattle.suffix.specs.Suffix.{private_label}
use Rattle.entries.specs.AppId.{app_label}

-- both labels exist, and they are equal without regard to ASCII case
pub record SameLabel (table appid host : Bytes) : Type 0 where
  pub label : Bytes
  pub appid_label : Bytes
  pub exists : private_label table host ≡ Some label
  pub app_exists : app_label table appid ≡ Some appid_label
  pub equal : same_no_case label appid_label ≡ true
