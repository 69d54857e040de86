use Rattle.json_values.proofs.Laws.{fits, name_laws}
use Rattle.json_values.proofs.skip_name.Goals as goal

pub returns-in_err-i : goal.returns-in_err-i
returns-in_err-i c = rw c.from_residual.ensures (search name_laws)

pub returns-then-ne : goal.returns-then-ne
returns-then-ne c = search name_laws

pub overflow_add-j : goal.overflow_add-j
overflow_add-j c = search fits

pub returns : goal.returns
returns c = search name_laws
