use Rattle.response_head.proofs.HeadLaws.{gather_laws}
use Rattle.response_head.proofs.read_fields.Goals as goal

pub loop-at-init : goal.loop-at-init
loop-at-init c = search gather_laws

pub slice_bounds-begins_with-count : goal.slice_bounds-begins_with-count
slice_bounds-begins_with-count c = search gather_laws

pub slice_bounds-begins_with-start : goal.slice_bounds-begins_with-start
slice_bounds-begins_with-start c = search gather_laws

pub returns-then-s-end-eq2 : goal.returns-then-s-end-eq2
returns-then-s-end-eq2 c = search gather_laws

pub returns-then-end-at : goal.returns-then-end-at
returns-then-end-at c = search gather_laws

pub field_seen-requires : goal.field_seen-requires
field_seen-requires c = search gather_laws

pub returns-in_err-x : goal.returns-in_err-x
returns-in_err-x c = rw c.from_residual.ensures (search (c.in_err-x.was, gather_laws))

pub overflow_add-at : goal.overflow_add-at
overflow_add-at c = search gather_laws

pub loop-at-preserved : goal.loop-at-preserved
loop-at-preserved c = search gather_laws

pub returns-else-begins_with : goal.returns-else-begins_with
returns-else-begins_with c = search gather_laws

pub returns : goal.returns
returns c = search gather_laws
