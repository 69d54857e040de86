use Rattle.label_lookup.proofs.FindLaws.{exception_laws}
use Rattle.label_lookup.proofs.exception_sizes.Goals as goal

pub returns-then-ends_at_label : goal.returns-then-ends_at_label
returns-then-ends_at_label c = search exception_laws

pub returns : goal.returns
returns c = search exception_laws
