-- One response head and what it says (document 02, S-2). Its grammar is RFC 9112's, sections 2.1 to 5, with tokens and field values as in RFC 9110,
-- section 5; each rule stands in a comment as its RFC writes it.
use Rattle.std.specs.Prelude.{List, [], ◌∷◌, Bool, false, ◌&&◌, ◌||◌, not, ℕ, length, take, drop, eqb, leb, if◌then◌else◌, Option, None, Some}
use Prim.Native.Char.{code}
use Rattle.ascii.specs.Ascii.{Bytes, ◌>>=◌, ◌when◌, all, is_empty, take_while, drop_while, join_head, between, among, is_digit, is_letter, same, same_no_case, begins_with, begins_by, text, number16}

-- ---- bytes

-- SP / HTAB, of which OWS = *( SP / HTAB )
unfoldable pub is_blank : ℕ → Bool
is_blank b = eqb b 0x20 || eqb b 0x09

-- HTAB / SP / VCHAR / obs-text, where VCHAR = %x21-7E and obs-text = %x80-FF
unfoldable pub is_text_byte : ℕ → Bool
is_text_byte b = is_blank b || between 0x21 0x7E b || between 0x80 0xFF b

-- tchar = "!" / "#" / "$" / "%" / "&" / "'" / "*" / "+" / "-" / "." / "^" / "_" / "`" / "|" / "~" / DIGIT / ALPHA
unfoldable pub is_tchar : ℕ → Bool
is_tchar b = among (text "!#$%&'*+-.^_`|~") b || is_digit b || is_letter b

-- ---- lines

-- CRLF ends, CR = %x0D and LF = %x0A: the parts between CRLFs, one more than there are CRLFs
unfoldable pub lines_of : Bytes → List Bytes
lines_of [] = [] ∷ []
lines_of (b ∷ []) = (b ∷ []) ∷ []
lines_of (b ∷ c ∷ s) = if eqb 0x0D b && eqb 0x0A c then [] ∷ lines_of s else join_head b (lines_of (c ∷ s))

-- a byte of a form: `0` stands for DIGIT, another byte for itself
unfoldable pub fits_byte : ℕ → ℕ → Bool
fits_byte p b = if eqb p (code "0") then is_digit b else eqb b p

-- s begins with bytes that fit the form
abbrev pub fits_form : Bytes → Bytes → Bool
fits_form form s = begins_by fits_byte form s

-- HTTP-version SP status-code SP, where HTTP-version = HTTP-name "/" DIGIT "." DIGIT, HTTP-name = %s"HTTP" (by case) and status-code = 3DIGIT
abbrev pub status_form : Bytes
status_form = text "HTTP/0.0 000 "

-- status-line = HTTP-version SP status-code SP [ reason-phrase ], where reason-phrase = 1*( HTAB / SP / VCHAR / obs-text ); its status is the number of the
-- three digits behind `HTTP/0.0 `
unfoldable pub read_status : Bytes → Option ℕ
read_status l = if fits_form status_form l && all is_text_byte (drop (length status_form) l) then number16 (take 3 (drop 9 l)) else None

-- optional spaces and tabs around a value are dropped
unfoldable pub trim_end : Bytes → Bytes
trim_end [] = []
trim_end (b ∷ s) = if all is_blank (b ∷ s) then [] else b ∷ trim_end s

unfoldable pub trim : Bytes → Bytes
trim s = trim_end (drop_while is_blank s)

pub record Field : Type 0 where
  pub name : Bytes
  pub value : Bytes

-- field-line = field-name ":" OWS field-value OWS, where field-name = token, token = 1*tchar, field-value = *field-content,
-- field-content = field-vchar [ 1*( SP / HTAB / field-vchar ) field-vchar ] and field-vchar = VCHAR / obs-text.
-- So a field-value is text bytes with no blank first or last, and what stands behind the colon any text bytes.
unfoldable pub field_of : Bytes → Bytes → Option Field
field_of name rest =
    record { name = name; value = trim (drop 1 rest) }
    when (not (is_empty name) && begins_with (text ":") rest && all is_text_byte (drop 1 rest))

unfoldable pub read_field : Bytes → Option Field
read_field l = field_of (take_while is_tchar l) (drop_while is_tchar l)

-- behind the empty line: its CRLF stands, and then nothing
unfoldable pub is_end : List Bytes → Bool
is_end [] = false
is_end (l ∷ ls) = is_empty l && is_empty ls

-- field lines, the empty line last: *( field-line CRLF ) CRLF
unfoldable pub read_fields : List Bytes → Option (List Field)
read_fields [] = None
read_fields (l ∷ ls) =
    if is_empty l then ([] when is_end ls) else
    (read_field l >>= λ f. read_fields ls >>= λ fs. Some (f ∷ fs))

-- ---- what the fields say

-- the values of the lines of one name; names compare without case
unfoldable pub values_of : Bytes → List Field → List Bytes
values_of name [] = []
values_of name (f ∷ fs) = if same_no_case f.name name then f.value ∷ values_of name fs else values_of name fs

abbrev pub authorized_name : Bytes
authorized_name = text "FIDO-AppID-Redirect-Authorized"

abbrev pub type_name : Bytes
type_name = text "Content-Type"

abbrev pub location_name : Bytes
location_name = text "Location"

-- of repeated lines of one name the first counts
unfoldable pub first_passes : (Bytes → Bool) → List Bytes → Bool
first_passes p [] = false
first_passes p (v ∷ vs) = p v

-- the authorized header counts only with the value `true`
unfoldable pub is_true : Bytes → Bool
is_true v = same v (text "true")

-- another byte than d
abbrev pub is_other : ℕ → ℕ → Bool
is_other d b = not (eqb b d)

-- content type is right where it equals this without case, up to its first `;` and blanks before it
unfoldable pub is_list_type : Bytes → Bool
is_list_type v = same_no_case (trim_end (take_while (is_other (code ";")) v)) (text "application/fido.trusted-apps+json")

-- exactly one line
unfoldable pub only : List Bytes → Option Bytes
only [] = None
only (v ∷ []) = Some v
only (v ∷ w ∷ vs) = None

-- ---- the head

pub data Head : Type 0 where
  redirect : (status : ℕ) → (authorized : Bool) → (location : Bytes) → Head
  answer : (status : ℕ) → (type_seen : Bool) → Head

-- a status from 300 to 399 makes a redirect and needs exactly one Location line; any other makes an answer
unfoldable pub head_of : ℕ → List Field → Option Head
head_of status fs =
    if between 300 399 status
    then (only (values_of location_name fs) >>= λ v. Some (redirect status (first_passes is_true (values_of authorized_name fs)) v))
    else Some (answer status (first_passes is_list_type (values_of type_name fs)))

-- status line, field lines, the empty line last
unfoldable pub read_lines : List Bytes → Option Head
read_lines [] = None
read_lines (l ∷ ls) = read_status l >>= λ status. read_fields ls >>= λ fs. head_of status fs

-- at most 8,192 bytes; none: not in this form, or a redirect without its one Location
unfoldable pub read_head : Bytes → Option Head
read_head head = if leb (length head) 8192 then read_lines (lines_of head) else None
