-- Why an entry is discarded, and which entries are kept (document 01, "The list").
use Rattle.std.specs.Prelude.{List, Bool, false, ◌||◌, not, length, ltb, if◌then◌else◌, Option, None, Some}
use Rattle.ascii.specs.Ascii.{Bytes, is_none, both_pass, filter_by, same_no_case}
use Rattle.suffix.specs.Suffix.{private_label}
use Rattle.origin.specs.Origin.{Authority, begins_https, begins_native, web_origin, is_facet}
use Rattle.entries.specs.AppId.{app_label}
use Rattle.entries.specs.declared.Cause.{Cause}
use Rattle.entries.specs.declared.Cause.TheVariants.{TooLong, OtherScheme, NotFacet, OtherLabel}

-- both exist and are equal
unfoldable pub labels_agree : Option Bytes → Option Bytes → Bool
labels_agree = both_pass same_no_case

-- a web origin, where its host or the AppID's has no private label or the two labels are unequal
unfoldable pub is_other_label : Bytes → Bytes → Option Authority → Bool
is_other_label appid table None = false
is_other_label appid table (Some o) = not (labels_agree (private_label table o.host) (app_label table appid))

-- causes 1 to 4: the first that holds; none: the entry is kept
unfoldable pub cause : Bytes → Bytes → Bytes → Option Cause
cause appid table entry =
    if ltb 512 (length entry) then Some TooLong else
    if not (begins_https entry || begins_native entry) then Some OtherScheme else
    if not (is_facet entry) then Some NotFacet else
    if is_other_label appid table (web_origin entry) then Some OtherLabel else
    None

-- all others are kept, in order, repeats included
unfoldable pub kept : Bytes → Bytes → List Bytes → List Bytes
kept appid table entries = filter_by (λ e. is_none (cause appid table e)) entries
