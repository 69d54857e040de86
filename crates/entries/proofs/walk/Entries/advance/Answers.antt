use Rattle.entries.proofs.Laws.{walking}
use Rattle.entries.proofs.walk.Entries.advance.Goals as goal

pub returns-in_err-at : goal.returns-in_err-at
returns-in_err-at c = rw c.from_residual.ensures (search (c.in_err-at.was, walking))

pub invariant_of-self : goal.invariant_of-self
invariant_of-self c = search (c.in_ok-at.was, walking)

pub returns : goal.returns
returns c = search (c.in_ok-at.was, walking)
