use Rattle.entries.proofs.Laws.{owners}
use Rattle.entries.proofs.find_owner.Goals as goal

pub returns : goal.returns
returns c = search owners
