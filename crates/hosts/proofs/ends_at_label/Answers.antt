use Rattle.hosts.proofs.Laws.{laws}
use Rattle.hosts.proofs.ends_at_label.Goals as goal

pub returns-then-h-w : goal.returns-then-h-w
returns-then-h-w c = search laws

pub returns-then-is_boundary : goal.returns-then-is_boundary
returns-then-is_boundary c = search laws

pub returns-else-is_boundary : goal.returns-else-is_boundary
returns-else-is_boundary c = search laws
