use Rattle.suffix.proofs.Laws.{laws}
use Rattle.suffix.proofs.Sizes.suffix_size.Goals as goal

pub returns-then-self-gt0 : goal.returns-then-self-gt0
returns-then-self-gt0 c = search laws

pub returns : goal.returns
returns c = search laws
