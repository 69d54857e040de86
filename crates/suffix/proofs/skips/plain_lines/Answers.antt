use Rattle.suffix.proofs.Walks.{walk_laws}
use Rattle.suffix.proofs.skips.plain_lines.Goals as goal

pub loop-i-init : goal.loop-i-init
loop-i-init c = search walk_laws

pub returns-then-i-start-ge60 : goal.returns-then-i-start-ge60
returns-then-i-start-ge60 c = search walk_laws

pub returns-in_default : goal.returns-in_default
returns-in_default c = search walk_laws

pub returns-in_default-two : goal.returns-in_default-two
returns-in_default-two c = search walk_laws

pub returns-in_default-three : goal.returns-in_default-three
returns-in_default-three c = search walk_laws

pub returns-in_default-four : goal.returns-in_default-four
returns-in_default-four c = search walk_laws

pub loop-i-preserved : goal.loop-i-preserved
loop-i-preserved c = search walk_laws

pub returns : goal.returns
returns c = search walk_laws
