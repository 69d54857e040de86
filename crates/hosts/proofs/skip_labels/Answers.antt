use Rattle.hosts.proofs.Laws.{laws}
use Rattle.hosts.proofs.skip_labels.Goals as goal

pub loop-i-init : goal.loop-i-init
loop-i-init c = search laws

pub returns-then-left-eq0 : goal.returns-then-left-eq0
returns-then-left-eq0 c = search laws

pub loop-i-preserved : goal.loop-i-preserved
loop-i-preserved c = search laws

pub returns : goal.returns
returns c = search laws
