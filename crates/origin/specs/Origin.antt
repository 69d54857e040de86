-- Web origins, native identities, facets, HTTPS URLs and normal forms (document 01, "Identifiers").
use Rattle.std.specs.Prelude.{[], ◌++◌, Bool, ◌&&◌, ◌||◌, not, ℕ, length, drop, eqb, leb, if◌then◌else◌, Option, None, Some}
use Prim.Native.Char.{code}
use Rattle.ascii.specs.Ascii.{Bytes, ◌>>=◌, is_none, all, is_empty, take_while, drop_while, between, is_digit, is_letter, lower, same, begins_with, begins_with_no_case, text, value, number16}
use Rattle.hosts.specs.Host.{is_host, is_label_byte}

-- `https://` is read in either ASCII case
unfoldable pub begins_https : Bytes → Bool
begins_https s = begins_with_no_case (text "https://") s

-- ---- `https://`, a host, optionally `:` and a port

-- port: its digits as written, empty where it is absent. tail: what stands behind
pub record Authority : Type 0 where
  pub host : Bytes
  pub port : Bytes
  pub tail : Bytes

-- 1 to 65535 without leading zero
unfoldable pub is_port : Bytes → Bool
is_port p = not (is_none (number16 p)) && not (begins_with (text "0") p)

-- a port's digits by their value, an absent port being 443 (what rule 4 compares: Matching.antt of matching)
unfoldable pub effective_port : Bytes → ℕ
effective_port p = if is_empty p then 443 else value p

unfoldable pub read_port : Bytes → Bytes → Option Authority
read_port host s =
    if not (begins_with (text ":") s) then Some (record { host = host; port = []; tail = s }) else
    if is_port (take_while is_digit (drop 1 s)) then Some (record { host = host; port = take_while is_digit (drop 1 s); tail = drop_while is_digit (drop 1 s) }) else
    None

-- a byte of a host: of a label, or the dot between two
unfoldable pub is_host_byte : ℕ → Bool
is_host_byte b = is_label_byte b || eqb b (code ".")

unfoldable pub read_host : Bytes → Option Authority
read_host s = if is_host (take_while is_host_byte s) then read_port (take_while is_host_byte s) (drop_while is_host_byte s) else None

unfoldable pub read_https : Bytes → Option Authority
read_https s = if begins_https s then read_host (drop 8 s) else None

-- ---- web origins

-- `https://`, a host, optionally a port, optionally one final `/`
unfoldable pub web_origin : Bytes → Option Authority
web_origin s = read_https s >>= λ a. if is_empty a.tail || same a.tail (text "/") then Some a else None

-- ---- native identities

abbrev pub android_prefix : Bytes
android_prefix = text "android:apk-key-hash:"

-- A–Z a–z 0–9 + /
unfoldable pub is_key_hash_byte : ℕ → Bool
is_key_hash_byte b = is_letter b || is_digit b || eqb b (code "+") || eqb b (code "/")

-- exactly 27 characters
unfoldable pub is_android : Bytes → Bool
is_android s = begins_with android_prefix s && eqb (length (drop 21 s)) 27 && all is_key_hash_byte (drop 21 s)

abbrev pub ios_prefix : Bytes
ios_prefix = text "ios:bundle-id:"

-- 1 to 255 letters, digits, hyphens or dots
unfoldable pub is_ios : Bytes → Bool
is_ios s = begins_with ios_prefix s && between 1 255 (length (drop 14 s)) && all is_host_byte (drop 14 s)

-- one of the two prefixes, in lower case
unfoldable pub begins_native : Bytes → Bool
begins_native s = begins_with android_prefix s || begins_with ios_prefix s

unfoldable pub is_native : Bytes → Bool
is_native s = is_android s || is_ios s

-- ---- facets

-- a web origin or a native identity, in at most 512 bytes
unfoldable pub is_facet : Bytes → Bool
is_facet s = leb (length s) 512 && (not (is_none (web_origin s)) || is_native s)

-- ---- normal forms

-- the port unless absent or 443
unfoldable pub shown_port : Bytes → Bytes
shown_port p = if is_empty p || same p (text "443") then [] else text ":" ++ p

-- `https://`, the host in lower case, and the port
unfoldable pub normal_web : Authority → Bytes
normal_web a = text "https://" ++ lower a.host ++ shown_port a.port

unfoldable pub normal_of : Option Authority → Bytes → Bytes
normal_of None s = s
normal_of (Some a) s = normal_web a

-- a native identity is its own normal form
unfoldable pub normal_form : Bytes → Bytes
normal_form s = normal_of (web_origin s) s

-- ---- HTTPS URLs

-- 0x21 to 0x7E without `#`
unfoldable pub is_tail_byte : ℕ → Bool
is_tail_byte b = between 0x21 0x7E b && not (eqb b (code "#"))

-- nothing, or a tail beginning with `/` or `?`
unfoldable pub is_tail : Bytes → Bool
is_tail t = is_empty t || ((begins_with (text "/") t || begins_with (text "?") t) && all is_tail_byte t)

-- at most 2,048 bytes
unfoldable pub https_url : Bytes → Option Authority
https_url s = if leb (length s) 2048 then (read_https s >>= λ a. if is_tail a.tail then Some a else None) else None
