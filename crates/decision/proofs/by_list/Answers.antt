use Rattle.std.proofs.lemmas.Result.{err_from_is_err_and}
use Rattle.decision.proofs.Laws.{laws}
use Rattle.decision.proofs.by_list.Goals as goal

pub returns-then-due-ne200 : goal.returns-then-due-ne200
returns-then-due-ne200 c = search laws

pub returns-then-not-due : goal.returns-then-not-due
returns-then-not-due c = search laws

pub returns-in_err-list : goal.returns-in_err-list
returns-in_err-list c =
    let p = err_from_is_err_and c.from_residual.result c.from_residual.ensures.1 in
    rw (p.1, p.2) (search (c.in_err-list.was, laws))

pub returns : goal.returns
returns c = search laws
