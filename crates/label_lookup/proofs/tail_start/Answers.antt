use Rattle.label_lookup.proofs.PassLaws.{tail_laws}
use Rattle.label_lookup.proofs.tail_start.Goals as goal

pub returns : goal.returns
returns c = search tail_laws
