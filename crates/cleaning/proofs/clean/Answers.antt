use Rattle.std.proofs.lemmas.Result.{err_from_is_err_and}
use Rattle.cleaning.proofs.Laws.{cleaning}
use Rattle.cleaning.proofs.clean.Goals as goal

pub returns-in_err-list : goal.returns-in_err-list
returns-in_err-list c = search (err_from_is_err_and c.from_residual.result c.from_residual.ensures.1, c.in_err-list.was, cleaning)

pub returns : goal.returns
returns c = search cleaning
