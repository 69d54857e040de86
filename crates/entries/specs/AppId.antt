-- The AppID: refusal 2, and its private label (document 01, "The list" and the table of refusals).
use Rattle.std.specs.Prelude.{Bool, ◌&&◌, ◌||◌, length, ltb, Option}
use Rattle.ascii.specs.Ascii.{Bytes, ◌>>=◌, is_none}
use Rattle.suffix.specs.Suffix.{private_label}
use Rattle.origin.specs.Origin.{begins_https, https_url}

-- refusal 2: over 2,048 bytes, or begins `https://` and is no HTTPS URL
unfoldable pub is_bad_app_id : Bytes → Bool
is_bad_app_id appid = ltb 2048 (length appid) || (begins_https appid && is_none (https_url appid))

-- the AppID's private label; an AppID that is no HTTPS URL has none
unfoldable pub app_label : Bytes → Bytes → Option Bytes
app_label table appid = https_url appid >>= λ u. private_label table u.host
