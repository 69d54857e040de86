use Rattle.origin.proofs.Laws.{laws}
use Rattle.origin.proofs.is_native.Goals as goal

pub returns-then-is_android : goal.returns-then-is_android
returns-then-is_android c = search laws

pub returns : goal.returns
returns c = search laws
