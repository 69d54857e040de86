use Rattle.response_head.proofs.ByteLaws.{byte_laws}
use Rattle.response_head.proofs.is_blank.Goals as goal

pub returns-then-b-eq32 : goal.returns-then-b-eq32
returns-then-b-eq32 c = search byte_laws

pub returns : goal.returns
returns c = search byte_laws
