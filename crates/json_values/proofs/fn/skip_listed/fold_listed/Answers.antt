use Rattle.json_text.proofs.Steps.{took, left}
use Rattle.json_values.proofs.Folding.{told_none, told_place}
use Rattle.json_values.proofs.fn.skip_listed.fold_listed.Goals as goal

pub returns-in_err-j : goal.returns-in_err-j
returns-in_err-j g c = rw (c.from_residual.ensures, told_none (left c.branch-j.ensures c.in_err-j.is)) c.skip.ensures

pub returns : goal.returns
returns g c = rw (told_place (took c.branch-j.ensures c.in_ok-j.is)) c.skip.ensures
