use Rattle.origin.proofs.Laws.{laws}
use Rattle.origin.proofs.begins_https.Goals as goal

pub returns : goal.returns
returns c = search laws
