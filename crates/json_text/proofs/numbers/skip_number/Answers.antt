use Rattle.json_text.proofs.Laws.{number_laws}
use Rattle.json_text.proofs.numbers.skip_number.Goals as goal

pub returns-in_err-i : goal.returns-in_err-i
returns-in_err-i c = rw c.from_residual.ensures (search number_laws)

pub returns : goal.returns
returns c = search number_laws
