use Rattle.entries.proofs.Laws.{reading}
use Rattle.entries.proofs.decode_entry.Goals as goal

pub returns : goal.returns
returns c = search reading

pub returns-in_default : goal.returns-in_default
returns-in_default c = search reading
