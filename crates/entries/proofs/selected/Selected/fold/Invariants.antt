use lib.ListN.{length}
use Rattle.entries.specs.code.Walking.{to_come}
use Rattle.entries.proofs.FoldLaws.{Folding}
use Rattle.entries.proofs.selected.Selected.fold.Given as goal

abbrev pub invariant-loop-cause : goal.invariant-loop-cause
invariant-loop-cause g l = Folding g.F.FnMut l.self l.initial.turn l.fn.start l.entries l.turn l.made

abbrev pub decreases-loop-cause : goal.decreases-loop-cause
decreases-loop-cause g l = length (to_come l.entries)
