use Rattle.std.proofs.lemmas.Result.{err_from_is_err_and}
use Rattle.cleaning.proofs.Laws.{preparing}
use Rattle.cleaning.proofs.prepare.Goals as goal

pub returns-in_err-url : goal.returns-in_err-url
returns-in_err-url c = search (err_from_is_err_and c.from_residual.result c.from_residual.ensures.1, c.in_err-url.was, preparing)

pub returns-in_default : goal.returns-in_default
returns-in_default c = search preparing

pub returns : goal.returns
returns c = search preparing
