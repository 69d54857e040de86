use Rattle.json_text.proofs.Laws.{unescaped_laws}
use Rattle.json_text.proofs.unescaped.skip_range.Goals as goal

pub returns-in_err-b : goal.returns-in_err-b
returns-in_err-b c = rw c.from_residual.ensures (search unescaped_laws)

pub returns-then-b-lo : goal.returns-then-b-lo
returns-then-b-lo c = search unescaped_laws

pub returns-then-hi-b : goal.returns-then-hi-b
returns-then-hi-b c = search unescaped_laws

pub overflow_add-result : goal.overflow_add-result
overflow_add-result c = search unescaped_laws

pub returns : goal.returns
returns c = search unescaped_laws
