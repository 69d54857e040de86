use Rattle.origin.proofs.Laws.{laws}
use Rattle.origin.proofs.https_url.Goals as goal

pub returns-then-s-gt2048 : goal.returns-then-s-gt2048
returns-then-s-gt2048 c = search laws

pub returns-in_err-p : goal.returns-in_err-p
returns-in_err-p c = search laws

pub returns-then-is_tail : goal.returns-then-is_tail
returns-then-is_tail c = search (c.in_ok-p.was, laws)

pub returns-else-is_tail : goal.returns-else-is_tail
returns-else-is_tail c = search (c.in_ok-p.was, laws)
