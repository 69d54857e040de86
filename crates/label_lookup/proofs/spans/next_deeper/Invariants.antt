use Prim.Native.Nat.{◌+◌, ◌-◌}
use lib.ListN.{length}
use Rattle.label_lookup.proofs.SpanLaws.{Seeking}
use Rattle.label_lookup.proofs.spans.next_deeper.Given as goal

abbrev pub invariant-loop-found : goal.invariant-loop-found
invariant-loop-found l = Seeking l.kinds.host.now l.table l.count l.from l.at

abbrev pub decreases-loop-found : goal.decreases-loop-found
decreases-loop-found l = length l.table + 1 - l.at
