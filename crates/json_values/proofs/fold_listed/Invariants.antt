use Prim.Native.Nat.{◌-◌}
use lib.ListN.{length}
use Rattle.json_values.proofs.Folding.{Folding}
use Rattle.json_values.proofs.fold_listed.Given as goal

abbrev pub invariant-loop-item : goal.invariant-loop-item
invariant-loop-item g l = Folding (goal.F-post g l.item) l.s l.from l.close l.fn.start l.held l.at

abbrev pub decreases-loop-item : goal.decreases-loop-item
decreases-loop-item g l = length l.s - l.at
