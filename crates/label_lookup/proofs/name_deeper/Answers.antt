use Rattle.label_lookup.proofs.FindLaws.{deeper_laws}
use Rattle.label_lookup.proofs.name_deeper.Goals as goal

pub returns-then-ends_at_label : goal.returns-then-ends_at_label
returns-then-ends_at_label c = search deeper_laws

pub returns : goal.returns
returns c = search deeper_laws
