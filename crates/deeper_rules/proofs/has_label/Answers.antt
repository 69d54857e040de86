use Rattle.deeper_rules.proofs.JoinedSizes.{joined_laws, by_sizes}
use Rattle.deeper_rules.proofs.has_label.Goals as goal

pub returns-then-ends_at_label : goal.returns-then-ends_at_label
returns-then-ends_at_label c = search by_sizes

pub returns : goal.returns
returns c = search joined_laws
