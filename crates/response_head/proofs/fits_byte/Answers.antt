use Rattle.response_head.proofs.ByteLaws.{byte_laws}
use Rattle.response_head.proofs.fits_byte.Goals as goal

pub returns-then-p-eq48 : goal.returns-then-p-eq48
returns-then-p-eq48 c = search byte_laws

pub returns : goal.returns
returns c = search byte_laws
