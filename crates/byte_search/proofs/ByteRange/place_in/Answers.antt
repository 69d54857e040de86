use Rattle.byte_search.proofs.RangeLaws.{range_laws}
use Rattle.byte_search.proofs.ByteRange.place_in.Goals as goal

pub returns-then-is_outside : goal.returns-then-is_outside
returns-then-is_outside c = search range_laws

pub returns-else-is_outside : goal.returns-else-is_outside
returns-else-is_outside c = search range_laws
