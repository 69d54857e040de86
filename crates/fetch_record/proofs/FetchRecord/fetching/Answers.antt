use Rattle.std.proofs.lemmas.Result.{err_from_is_err_and}
use Rattle.fetch_record.proofs.Laws.{laws}
use Rattle.fetch_record.proofs.FetchRecord.fetching.Goals as goal

pub returns-in_default : goal.returns-in_default
returns-in_default c = search laws

pub returns-in_err-hops_of : goal.returns-in_err-hops_of
returns-in_err-hops_of c =
    let p = err_from_is_err_and c.from_residual.result c.from_residual.ensures.1 in
    rw (p.1, p.2) (search (c.in_err-hops_of.was, laws))

pub returns : goal.returns
returns c = search (c.in_ok-hops_of.was, laws)
