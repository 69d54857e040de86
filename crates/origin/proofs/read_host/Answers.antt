use Rattle.origin.proofs.Laws.{laws}
use Rattle.origin.proofs.read_host.Goals as goal

pub slice_bounds-is_host-count : goal.slice_bounds-is_host-count
slice_bounds-is_host-count c = search laws

pub slice_bounds-is_host-end : goal.slice_bounds-is_host-end
slice_bounds-is_host-end c = search laws

pub read_port-requires : goal.read_port-requires
read_port-requires c = search laws

pub returns-then-is_host : goal.returns-then-is_host
returns-then-is_host c = search laws

pub returns-else-is_host : goal.returns-else-is_host
returns-else-is_host c = search laws
