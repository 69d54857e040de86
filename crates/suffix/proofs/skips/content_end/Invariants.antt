use Prim.Native.Nat.{◌-◌}
use lib.ListN.{length}
use Rattle.suffix.specs.code.Pass.{in_content}
use Rattle.byte_search.proofs.RangeLaws.{SameEnd}
use Rattle.suffix.proofs.skips.content_end.Given as goal

abbrev pub invariant-loop-i : goal.invariant-loop-i
invariant-loop-i l = SameEnd in_content l.s l.from l.i

abbrev pub decreases-loop-i : goal.decreases-loop-i
decreases-loop-i l = length l.s - l.i
