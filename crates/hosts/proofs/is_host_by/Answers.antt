use Rattle.hosts.proofs.Laws.{laws}
use Rattle.hosts.proofs.is_host_by.Goals as goal

pub returns-then-s-lt1 : goal.returns-then-s-lt1
returns-then-s-lt1 c = search laws

pub returns-then-s-gt253 : goal.returns-then-s-gt253
returns-then-s-gt253 c = search laws

pub loop-from-init : goal.loop-from-init
loop-from-init c = search laws

pub returns-then-s-to : goal.returns-then-s-to
returns-then-s-to c = search laws

pub returns-then-s-to-ne46 : goal.returns-then-s-to-ne46
returns-then-s-to-ne46 c = search laws

pub loop-from-preserved : goal.loop-from-preserved
loop-from-preserved c = search laws

pub returns-else-is_shaped : goal.returns-else-is_shaped
returns-else-is_shaped c = search laws
