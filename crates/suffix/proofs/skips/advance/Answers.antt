use Rattle.suffix.proofs.KindLaws.{kind_laws}
use Rattle.suffix.proofs.skips.advance.Goals as goal

pub returns-then-sum-gt24 : goal.returns-then-sum-gt24
returns-then-sum-gt24 c = search kind_laws

pub returns : goal.returns
returns c = search kind_laws
