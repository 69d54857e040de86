use Rattle.json_values.proofs.Folding.{skips_none, skips_to}
use Rattle.json_values.proofs.skip_listed.Goals as goal

pub returns-in_err-j : goal.returns-in_err-j
returns-in_err-j g c = rw c.from_residual.ensures (skips_none c.fold_listed.ensures c.in_err-j.was)

pub returns : goal.returns
returns g c = skips_to c.fold_listed.ensures c.in_ok-j.was
