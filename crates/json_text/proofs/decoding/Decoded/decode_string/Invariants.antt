use Prim.Native.Nat.{◌-◌}
use lib.ListN.{length}
use Rattle.json_text.specs.code.Held.{content}
use Rattle.json_text.proofs.Holding.{Decodes}
use Rattle.json_text.proofs.decoding.Decoded.decode_string.Given as goal

abbrev pub invariant-loop-from : goal.invariant-loop-from
invariant-loop-from l = Decodes l.s l.from (content l.self) l.i

abbrev pub decreases-loop-from : goal.decreases-loop-from
decreases-loop-from l = length l.s - l.i
