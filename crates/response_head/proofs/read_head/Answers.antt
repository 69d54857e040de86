use Rattle.response_head.proofs.HeadLaws.{bound_laws}
use Rattle.response_head.proofs.read_head.Goals as goal

pub returns-then-head-gt8192 : goal.returns-then-head-gt8192
returns-then-head-gt8192 c = search bound_laws

pub returns : goal.returns
returns c = search bound_laws
