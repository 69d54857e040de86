use Prim.Native.Nat.{◌-◌}
use lib.ListN.{length}
use Rattle.hosts.proofs.Shapes.{HostFromBy}
use Rattle.hosts.proofs.is_host_by.Given as goal

abbrev pub invariant-loop-from : goal.invariant-loop-from
invariant-loop-from l = HostFromBy l.classes l.s l.from

abbrev pub decreases-loop-from : goal.decreases-loop-from
decreases-loop-from l = length l.s - l.from
