use Prim.Native.Nat.{◌-◌}
use lib.ListN.{length}
use Rattle.suffix.specs.code.Idle.{ShallowBy}
use Rattle.suffix.proofs.skips.idle_lines.Given as goal

abbrev pub invariant-loop-at : goal.invariant-loop-at
invariant-loop-at l = ShallowBy l.kinds l.host l.s l.most l.depth l.last l.from l.at

abbrev pub decreases-loop-at : goal.decreases-loop-at
decreases-loop-at l = length l.s - l.at
