use Rattle.origin.proofs.Laws.{laws}
use Rattle.origin.proofs.is_ios.Goals as goal

pub returns-then-s-lt15 : goal.returns-then-s-lt15
returns-then-s-lt15 c = search laws

pub returns-then-s-gt269 : goal.returns-then-s-gt269
returns-then-s-gt269 c = search laws

pub returns-then-begins_with : goal.returns-then-begins_with
returns-then-begins_with c = search laws

pub returns-else-begins_with : goal.returns-else-begins_with
returns-else-begins_with c = search laws
