use Rattle.suffix.proofs.SkipLaws.{skip_laws}
use Rattle.suffix.proofs.skips.next_line.Goals as goal

pub returns-in_err-first : goal.returns-in_err-first
returns-in_err-first c = search skip_laws

pub returns-then-first-eq10 : goal.returns-then-first-eq10
returns-then-first-eq10 c = search (c.in_ok-first.ensures.lookup, skip_laws)

pub returns-then-first-ne47 : goal.returns-then-first-ne47
returns-then-first-ne47 c = search skip_laws

pub returns-in_err-second : goal.returns-in_err-second
returns-in_err-second c = search skip_laws

pub returns-then-second-ne47 : goal.returns-then-second-ne47
returns-then-second-ne47 c = search skip_laws

pub overflow_add-result-2 : goal.overflow_add-result-2
overflow_add-result-2 c = search (c.in_ok-second.ensures.lookup, skip_laws)

pub returns : goal.returns
returns c = search (c.in_ok-first.ensures.lookup, c.in_ok-second.ensures.lookup, skip_laws)
