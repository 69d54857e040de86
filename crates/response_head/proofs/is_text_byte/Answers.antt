use Rattle.response_head.proofs.ByteLaws.{byte_laws}
use Rattle.response_head.proofs.is_text_byte.Goals as goal

pub returns-then-b-lt32 : goal.returns-then-b-lt32
returns-then-b-lt32 c = search byte_laws

pub returns : goal.returns
returns c = search byte_laws
