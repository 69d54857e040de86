use Rattle.json_text.proofs.Steps.{left}
use Rattle.json_text.proofs.Holding.{held_over}
use Rattle.json_text.proofs.Laws.{decoding_laws}
use Rattle.json_text.proofs.decoding.Decoded.held.Goals as goal

pub returns-in_err-n : goal.returns-in_err-n
returns-in_err-n c = rw c.from_residual.ensures (search decoding_laws)

pub returns : goal.returns
returns c = search decoding_laws
