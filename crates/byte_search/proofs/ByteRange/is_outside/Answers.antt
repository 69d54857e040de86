use Rattle.byte_search.proofs.RangeLaws.{range_laws}
use Rattle.byte_search.proofs.ByteRange.is_outside.Goals as goal

pub returns-then-b-self : goal.returns-then-b-self
returns-then-b-self c = search range_laws

pub returns-else-b-self : goal.returns-else-b-self
returns-else-b-self c = search range_laws
