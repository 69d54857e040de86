use Rattle.json_values.proofs.Laws.{laws}
use Rattle.json_values.proofs.is_readable.Goals as goal

pub returns-in_default : goal.returns-in_default
returns-in_default c = search laws

pub returns : goal.returns
returns c = search laws
