use Prim.Native.Nat.{◌-◌}
use lib.ListN.{length, drop}
use Rattle.response_head.specs.ResponseHead.{lines_of, read_fields}
use Rattle.response_head.proofs.HeadLaws.{Gathering}
use Rattle.response_head.proofs.read_fields.Given as goal

abbrev pub invariant-loop-at : goal.invariant-loop-at
invariant-loop-at l = Gathering l.s (read_fields (lines_of (drop l.from l.s))) l.x l.at

abbrev pub decreases-loop-at : goal.decreases-loop-at
decreases-loop-at l = length l.s - l.at
