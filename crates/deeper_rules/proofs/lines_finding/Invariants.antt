use Prim.Native.Nat.{◌-◌}
use lib.ListN.{length}
use Rattle.deeper_rules.proofs.FindingLaws.{Looking}
use Rattle.deeper_rules.proofs.lines_finding.Given as goal

abbrev pub invariant-loop-found : goal.invariant-loop-found
invariant-loop-found l = Looking l.host l.s l.found l.at

abbrev pub decreases-loop-found : goal.decreases-loop-found
decreases-loop-found l = length l.s - l.at
