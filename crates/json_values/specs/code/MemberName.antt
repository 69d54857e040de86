-- What stands before a member's value.
use Rattle.ascii.specs.Ascii.{Bytes, text}
use Rattle.json_text.specs.Reader.{Reader, ◌>>=◌, ◌>>◌, give, one_of}
use Rattle.json_text.specs.Lexical.{ws, read_string}

-- a name, the colon, and blanks
unfoldable pub member_name : Reader Bytes
member_name = do
  name ← read_string
  ws
  one_of (text ":")
  ws
  give name
