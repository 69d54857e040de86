use lib.ListN.{drop}
use Rattle.hosts.specs.Host.{labels}
use Rattle.hosts.proofs.Places.{Skips}
use Rattle.hosts.proofs.skip_labels.Given as goal

abbrev pub invariant-loop-i : goal.invariant-loop-i
invariant-loop-i l = Skips l.h (drop l.n (labels l.h)) l.left l.i
