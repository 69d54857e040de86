use Rattle.response_head.proofs.HeadLaws.{head_laws}
use Rattle.response_head.proofs.read_lines.Goals as goal

pub slice_bounds-begins_with-count : goal.slice_bounds-begins_with-count
slice_bounds-begins_with-count c = search head_laws

pub slice_bounds-begins_with-start : goal.slice_bounds-begins_with-start
slice_bounds-begins_with-start c = search head_laws

pub slice_bounds-read_status-end : goal.slice_bounds-read_status-end
slice_bounds-read_status-end c = search head_laws

pub read_status-requires : goal.read_status-requires
read_status-requires c = search head_laws

pub returns-in_err-status : goal.returns-in_err-status
returns-in_err-status c = rw c.from_residual.ensures (search (c.in_err-status.was, head_laws))

pub returns-in_err-x : goal.returns-in_err-x
returns-in_err-x c = rw c.from_residual-in_err-x.ensures (search (c.in_ok-status.was, c.in_err-x.was, head_laws))

pub returns-in_ok-x : goal.returns-in_ok-x
returns-in_ok-x c = search head_laws

pub returns-else-begins_with : goal.returns-else-begins_with
returns-else-begins_with c = search head_laws
