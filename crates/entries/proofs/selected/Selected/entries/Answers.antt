use Rattle.entries.proofs.Laws.{walking}
use Rattle.entries.proofs.selected.Selected.entries.Goals as goal

pub invariant_of-result : goal.invariant_of-result
invariant_of-result c = search walking

pub returns : goal.returns
returns c = search walking
