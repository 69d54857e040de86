use lib.ListN.{length}
use Rattle.entries.specs.code.Selecting.{kept_of}
use Rattle.entries.specs.code.Walking.{to_come}
use Rattle.decision.specs.Decide.{first_match}
use Rattle.decision.proofs.SeekLaws.{Seeks}
use Rattle.decision.proofs.first_match.Given as goal

abbrev pub invariant-loop-cause : goal.invariant-loop-cause
invariant-loop-cause l = Seeks l.caller l.list (first_match l.caller (kept_of l.list)) l.entries l.n

abbrev pub decreases-loop-cause : goal.decreases-loop-cause
decreases-loop-cause l = length (to_come l.entries)
