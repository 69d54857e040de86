use Prim.Native.Nat.{◌+◌, ◌-◌}
use lib.ListN.{length}
use Rattle.label_lookup.proofs.RoundLaws.{Round}
use Rattle.label_lookup.proofs.deep_lines.Given as goal

abbrev pub invariant-loop-found : goal.invariant-loop-found
invariant-loop-found l = Round l.kinds.host.now l.table l.sizes l.depth l.start l.at

abbrev pub decreases-loop-found : goal.decreases-loop-found
decreases-loop-found l = length l.table + 1 - l.at
