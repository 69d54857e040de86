-- JSON texts (RFC 8259, sections 2 to 5), nested at most 16 deep as document 01 has it: a tree, and its reader.
use Rattle.std.specs.Prelude.{List, [], ◌∷◌, ℕ, zero, suc, Option, None, Some}
use Rattle.ascii.specs.Ascii.{Bytes, text}
use Rattle.json_text.specs.Reader.{Read, got, bad, Reader, ◌>>=◌, ◌>>◌, give, fail, end_of_text, one_of, word, if_next◌then◌else◌, ◌giving◌, verbatim, counted}
use Rattle.json_text.specs.Lexical.{ws, read_number, read_string}

-- ---- the tree

-- A number is kept as written; a string is its decoded UTF-8 bytes. Jsons and Members are lists.
mutual
  pub data Json : Type 0 where
    literal : Json
    number : Bytes → Json
    string : Bytes → Json
    array : Jsons → Json
    object : Members → Json

  pub data Jsons : Type 0 where
    no_item : Jsons
    item : Json → Jsons → Jsons

  pub data Members : Type 0 where
    no_member : Members
    member : Bytes → Json → Members → Members

unfoldable pub to_items : List Json → Jsons
to_items [] = no_item
to_items (v ∷ vs) = item v (to_items vs)

unfoldable pub to_members : List (Bytes × Json) → Members
to_members [] = no_member
to_members (m ∷ ms) = member m.0 m.1 (to_members ms)

-- ---- sections 4 and 5: objects and arrays

-- item *( value-separator item ), and the closing byte
unfoldable pub items : {A : Type 0} → Reader A → Bytes → ℕ → Reader (List A)
items each close zero = fail
items each close (suc n) = do
  a ← each
  ws
  others ← if_next close then one_of close >> give [] else one_of (text ",") >> ws >> items each close n
  give (a ∷ others)

-- behind the opening byte: [ item *( value-separator item ) ], and the closing byte
unfoldable pub listed : {A : Type 0} → Reader A → Bytes → Reader (List A)
listed each close = do
  ws
  if_next close then one_of close >> give [] else counted (items each close)

-- member = string name-separator value
unfoldable pub read_member : Reader Json → Reader (Bytes × Json)
read_member value = do
  name ← read_string
  ws
  one_of (text ":")
  ws
  value giving λ v. (name, v)

-- array = begin-array [ value *( value-separator value ) ] end-array
unfoldable pub read_array : Reader Json → Reader Json
read_array value = one_of (text "[") >> listed value (text "]") giving λ vs. array (to_items vs)

-- object = begin-object [ member *( value-separator member ) ] end-object
unfoldable pub read_object : Reader Json → Reader Json
read_object value = one_of (text "{") >> listed (read_member value) (text "}") giving λ ms. object (to_members ms)

-- ---- section 3: values

-- value = false / null / true / object / array / number / string
unfoldable pub value_of : Reader Json → Reader Json → Reader Json
value_of read_array read_object =
    if_next text "f" then word (text "false") giving (λ u. literal) else
    if_next text "n" then word (text "null") giving (λ u. literal) else
    if_next text "t" then word (text "true") giving (λ u. literal) else
    if_next text "{" then read_object else
    if_next text "[" then read_array else
    if_next text "\"" then read_string giving string else
    verbatim read_number giving number

-- a value with at most so many arrays and objects open together
unfoldable pub read_value : ℕ → Reader Json
read_value zero = value_of fail fail
read_value (suc d) = value_of (read_array (read_value d)) (read_object (read_value d))

-- ---- section 2: a whole text

-- JSON-text = ws value ws
unfoldable pub read_text : Reader Json
read_text = do
  ws
  v ← read_value 16
  ws
  end_of_text
  give v

unfoldable pub value_read : Read Json → Option Json
value_read (got v n) = Some v
value_read bad = None

-- none: unreadable
unfoldable pub read_json : Bytes → Option Json
read_json s = value_read (read_text s)
