use Rattle.trusted_list.proofs.Laws.{slots}
use Rattle.trusted_list.proofs.fill_first.Goals as goal

pub returns-in_err-j : goal.returns-in_err-j
returns-in_err-j c = rw c.from_residual.ensures (search slots)

pub returns : goal.returns
returns c = search slots
