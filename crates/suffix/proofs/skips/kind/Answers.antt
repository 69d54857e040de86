use Rattle.suffix.proofs.KindLaws.{kind_laws}
use Rattle.suffix.proofs.skips.kind.Goals as goal

pub returns : goal.returns
returns c = search kind_laws
