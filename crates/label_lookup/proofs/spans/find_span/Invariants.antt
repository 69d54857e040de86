use Prim.Native.Nat.{◌-◌}
use lib.ListN.{length}
use Rattle.label_lookup.proofs.SpanLaws.{Spanning}
use Rattle.label_lookup.proofs.spans.find_span.Given as goal

abbrev pub invariant-loop-at : goal.invariant-loop-at
invariant-loop-at l = Spanning l.kinds.host.now l.table (l.count - 1) l.from l.to

abbrev pub decreases-loop-at : goal.decreases-loop-at
decreases-loop-at l = length l.table - l.to
