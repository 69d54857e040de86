use Rattle.origin.proofs.Laws.{laws}
use Rattle.origin.proofs.read_https.Goals as goal

pub read_host-requires : goal.read_host-requires
read_host-requires c = search laws

pub returns-then-begins_https : goal.returns-then-begins_https
returns-then-begins_https c = search laws

pub returns-else-begins_https : goal.returns-else-begins_https
returns-else-begins_https c = search laws
