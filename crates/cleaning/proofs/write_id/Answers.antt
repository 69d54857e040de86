use Rattle.cleaning.proofs.Laws.{laws}
use Rattle.cleaning.proofs.write_id.Goals as goal

pub returns : goal.returns
returns c = search laws
