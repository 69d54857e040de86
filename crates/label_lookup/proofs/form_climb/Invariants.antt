use Rattle.label_lookup.proofs.ClimbLaws.{Climb}
use Rattle.label_lookup.proofs.form_climb.Given as goal

abbrev pub invariant-loop-k : goal.invariant-loop-k
invariant-loop-k l = Climb l.host l.line.bytes.now l.depth l.k
