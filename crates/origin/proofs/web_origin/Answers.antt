use Rattle.origin.proofs.Laws.{laws}
use Rattle.origin.proofs.web_origin.Goals as goal

pub returns-in_err-p : goal.returns-in_err-p
returns-in_err-p c = search laws

pub returns-then-is_end : goal.returns-then-is_end
returns-then-is_end c = search (c.in_ok-p.was, laws)

pub returns-else-is_end : goal.returns-else-is_end
returns-else-is_end c = search (c.in_ok-p.was, laws)
