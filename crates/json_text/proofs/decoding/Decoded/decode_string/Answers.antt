use Rattle.json_text.proofs.Steps.{left}
use Rattle.json_text.proofs.Holding.{decode_bad}
use Rattle.json_text.proofs.Laws.{decoding_laws}
use Rattle.json_text.proofs.decoding.Decoded.decode_string.Goals as goal

pub returns-then-ne : goal.returns-then-ne
returns-then-ne c = search decoding_laws

pub overflow_add-i : goal.overflow_add-i
overflow_add-i c = search decoding_laws

pub loop-from-init : goal.loop-from-init
loop-from-init c = search decoding_laws

pub overflow_add-result : goal.overflow_add-result
overflow_add-result c = search decoding_laws

pub returns-then-eq : goal.returns-then-eq
returns-then-eq c = search decoding_laws

pub returns-in_err-i : goal.returns-in_err-i
returns-in_err-i c = rw c.from_residual.ensures (decode_bad _ c.loop-from.invariant c.byte_at-in-loop-from.ensures c.eq.ensures _ c.if-eq.false c.put_char.ensures _ (left c.branch-i.ensures c.in_err-i.is))

pub loop-from-smaller : goal.loop-from-smaller
loop-from-smaller c = search decoding_laws

pub loop-from-preserved : goal.loop-from-preserved
loop-from-preserved c = search decoding_laws
