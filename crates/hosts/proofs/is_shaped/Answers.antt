use Rattle.hosts.proofs.Laws.{laws}
use Rattle.hosts.proofs.is_shaped.Goals as goal

pub returns-then-n-lt1 : goal.returns-then-n-lt1
returns-then-n-lt1 c = search laws

pub returns-then-n-gt63 : goal.returns-then-n-gt63
returns-then-n-gt63 c = search laws

pub returns-then-s-eq45 : goal.returns-then-s-eq45
returns-then-s-eq45 c = search laws

pub returns-then-s-n-eq45 : goal.returns-then-s-n-eq45
returns-then-s-n-eq45 c = search laws

pub returns : goal.returns
returns c = search laws
