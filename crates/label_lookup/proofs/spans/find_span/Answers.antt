use Rattle.label_lookup.proofs.SpanLaws.{span_laws, turn_laws}
use Rattle.label_lookup.proofs.spans.find_span.Goals as goal

pub next_deeper-requires : goal.next_deeper-requires
next_deeper-requires c = search span_laws

pub returns-in_default : goal.returns-in_default
returns-in_default c = search span_laws

pub loop-at-init : goal.loop-at-init
loop-at-init c = search span_laws

pub next_deeper-requires-in-loop-at : goal.next_deeper-requires-in-loop-at
next_deeper-requires-in-loop-at c = search turn_laws

pub loop-at-preserved : goal.loop-at-preserved
loop-at-preserved c = search turn_laws

pub returns : goal.returns
returns c = search turn_laws
