use borrow.Author.Rules.{rules}
use Rattle.json_text.proofs.Laws.{hex_at_laws}
use Rattle.json_text.proofs.escapes.hex_at.Goals as goal

pub returns-in_err-b : goal.returns-in_err-b
returns-in_err-b c = rw c.from_residual.ensures (search (hex_at_laws, rules))

pub returns : goal.returns
returns c = search hex_at_laws
