use Prim.Native.Nat.{◌-◌}
use lib.ListN.{length}
use Rattle.suffix.specs.code.Idle.{Skipped}
use Rattle.suffix.proofs.skips.skip_comments.Given as goal

abbrev pub invariant-loop-next : goal.invariant-loop-next
invariant-loop-next l = Skipped l.s l.from l.at

abbrev pub decreases-loop-next : goal.decreases-loop-next
decreases-loop-next l = length l.s - l.at
