use Rattle.json_text.proofs.Laws.{unescaped_laws}
use Rattle.json_text.proofs.unescaped.skip_with_tails.Goals as goal

pub returns-in_err-i : goal.returns-in_err-i
returns-in_err-i c = rw c.from_residual.ensures (search unescaped_laws)

pub returns : goal.returns
returns c = search unescaped_laws
