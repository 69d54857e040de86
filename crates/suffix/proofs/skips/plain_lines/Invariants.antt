use Prim.Native.Nat.{◌-◌}
use lib.ListN.{length}
use Rattle.suffix.proofs.Walks.{Turn}
use Rattle.suffix.proofs.skips.plain_lines.Given as goal

abbrev pub invariant-loop-i : goal.invariant-loop-i
invariant-loop-i l = Turn l.kinds l.host l.s l.from l.start l.i l.before

abbrev pub decreases-loop-i : goal.decreases-loop-i
decreases-loop-i l = length l.s - l.i
