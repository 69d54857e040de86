use Rattle.label_lookup.proofs.ClimbLaws.{climb_laws}
use Rattle.label_lookup.proofs.form_depth.Goals as goal

pub returns : goal.returns
returns c = search climb_laws
