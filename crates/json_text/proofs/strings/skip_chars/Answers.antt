use Rattle.json_text.proofs.Laws.{string_laws}
use Rattle.json_text.proofs.strings.skip_chars.Goals as goal

pub loop-from-init : goal.loop-from-init
loop-from-init c = search string_laws

pub overflow_add-result : goal.overflow_add-result
overflow_add-result c = search string_laws

pub returns-then-eq : goal.returns-then-eq
returns-then-eq c = search string_laws

pub returns-in_err-i : goal.returns-in_err-i
returns-in_err-i c = rw c.from_residual.ensures (search string_laws)

pub loop-from-smaller : goal.loop-from-smaller
loop-from-smaller c = search string_laws

pub loop-from-preserved : goal.loop-from-preserved
loop-from-preserved c = search string_laws
