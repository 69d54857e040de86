use Rattle.suffix.proofs.KindLaws.{kind_laws}
use Rattle.suffix.proofs.skips.halt.Goals as goal

pub returns-then-before-eq1 : goal.returns-then-before-eq1
returns-then-before-eq1 c = search kind_laws

pub returns-else-before-eq1 : goal.returns-else-before-eq1
returns-else-before-eq1 c = search kind_laws

pub returns-else-k-eq8 : goal.returns-else-k-eq8
returns-else-k-eq8 c = search kind_laws
