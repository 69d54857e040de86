use Rattle.response_head.proofs.LineLaws.{line_laws}
use Rattle.response_head.proofs.field_seen.Goals as goal

pub returns-in_err-line : goal.returns-in_err-line
returns-in_err-line c = search line_laws

pub returns : goal.returns
returns c = search line_laws
