use Rattle.origin.proofs.Laws.{laws}
use Rattle.origin.proofs.is_key_hash_byte.Goals as goal

pub returns-then-class_of-lt2 : goal.returns-then-class_of-lt2
returns-then-class_of-lt2 c = search laws

pub returns-then-b-eq43 : goal.returns-then-b-eq43
returns-then-b-eq43 c = search laws

pub returns : goal.returns
returns c = search laws
