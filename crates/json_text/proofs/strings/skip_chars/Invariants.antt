use Prim.Native.Nat.{◌-◌}
use lib.ListN.{length}
use Rattle.json_text.specs.Reader.{counted}
use Rattle.json_text.specs.Lexical.{read_chars}
use Rattle.json_text.specs.code.Places.{read_at, place_of}
use Rattle.json_text.proofs.Chars.{Spells}
use Rattle.json_text.proofs.strings.skip_chars.Given as goal

abbrev pub invariant-loop-from : goal.invariant-loop-from
invariant-loop-from l = Spells l.s (place_of (read_at (counted read_chars) l.s l.from)) l.i

abbrev pub decreases-loop-from : goal.decreases-loop-from
decreases-loop-from l = length l.s - l.i
