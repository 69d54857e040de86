use Rattle.suffix.proofs.KindLaws.{kind_laws}
use Rattle.suffix.proofs.skips.kind_of.Goals as goal

pub returns-then-is_like : goal.returns-then-is_like
returns-then-is_like c = search kind_laws

pub returns-then-classes-from-lt2 : goal.returns-then-classes-from-lt2
returns-then-classes-from-lt2 c = search kind_laws

pub returns-then-b-eq45 : goal.returns-then-b-eq45
returns-then-b-eq45 c = search kind_laws

pub returns-then-b-eq46 : goal.returns-then-b-eq46
returns-then-b-eq46 c = search kind_laws

pub returns-then-b-eq10 : goal.returns-then-b-eq10
returns-then-b-eq10 c = search kind_laws

pub returns : goal.returns
returns c = search kind_laws
