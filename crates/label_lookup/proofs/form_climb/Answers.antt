use Rattle.label_lookup.proofs.ClimbLaws.{climb_laws}
use Rattle.label_lookup.proofs.form_climb.Goals as goal

pub returns-then-not-form_deeper : goal.returns-then-not-form_deeper
returns-then-not-form_deeper c = search climb_laws

pub loop-k-preserved : goal.loop-k-preserved
loop-k-preserved c = search climb_laws

pub returns : goal.returns
returns c = search climb_laws
