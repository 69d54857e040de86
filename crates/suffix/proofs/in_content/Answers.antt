use Rattle.suffix.proofs.Laws.{laws}
use Rattle.suffix.proofs.in_content.Goals as goal

pub returns-then-b-gt32 : goal.returns-then-b-gt32
returns-then-b-gt32 c = search laws

pub returns-then-b-eq10 : goal.returns-then-b-eq10
returns-then-b-eq10 c = search laws

pub returns-then-b-eq32 : goal.returns-then-b-eq32
returns-then-b-eq32 c = search laws

pub returns-then-b-eq9 : goal.returns-then-b-eq9
returns-then-b-eq9 c = search laws

pub returns-then-b-eq13 : goal.returns-then-b-eq13
returns-then-b-eq13 c = search laws

pub returns : goal.returns
returns c = search laws
