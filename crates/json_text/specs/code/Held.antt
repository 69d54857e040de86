-- What a decoded string holds.
use Rattle.std.specs.Prelude.{take, Option, option_map}
use Rattle.ascii.specs.Ascii.{Bytes}
use Rattle.json_text.specs.declared.decoding.Decoded.{Decoded}

-- the bytes that d holds, as many as its length says; none: the string has more
unfoldable pub content : Decoded → Option Bytes
content d = option_map (λ n. take n d.bytes) d.len
