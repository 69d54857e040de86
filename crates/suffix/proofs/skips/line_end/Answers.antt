use Rattle.suffix.proofs.LineEnds.{line_end_laws}
use Rattle.suffix.proofs.skips.line_end.Goals as goal

pub returns : goal.returns
returns c = search line_end_laws
