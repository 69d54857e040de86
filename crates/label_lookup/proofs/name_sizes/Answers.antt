use Rattle.label_lookup.proofs.FindLaws.{name_laws}
use Rattle.label_lookup.proofs.name_sizes.Goals as goal

pub returns-then-ends_at_label : goal.returns-then-ends_at_label
returns-then-ends_at_label c = search name_laws

pub returns : goal.returns
returns c = search name_laws
