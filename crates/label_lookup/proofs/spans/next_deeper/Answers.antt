use Rattle.label_lookup.proofs.SpanLaws.{seek_laws, seek_turns}
use Rattle.label_lookup.proofs.spans.next_deeper.Goals as goal

pub loop-found-init : goal.loop-found-init
loop-found-init c = search seek_laws

pub invariant_of-line : goal.invariant_of-line
invariant_of-line c = search seek_laws

pub returns-then-form_deeper : goal.returns-then-form_deeper
returns-then-form_deeper c = search seek_turns

pub overflow_add-at : goal.overflow_add-at
overflow_add-at c = search seek_laws

pub loop-found-preserved : goal.loop-found-preserved
loop-found-preserved c = search seek_turns

pub returns : goal.returns
returns c = search seek_turns
