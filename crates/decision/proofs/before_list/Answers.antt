use Rattle.std.proofs.lemmas.Result.{err_from_is_err_and}
use Rattle.decision.proofs.Laws.{stages}
use Rattle.decision.proofs.before_list.Goals as goal

pub returns-then-not-is_facet : goal.returns-then-not-is_facet
returns-then-not-is_facet c = search stages

pub returns-in_err-url : goal.returns-in_err-url
returns-in_err-url c =
    let p = err_from_is_err_and c.from_residual.result c.from_residual.ensures.1 in
    rw p.1 (search (p.2, c.in_err-url.was, stages))

pub returns-then-appid-eq0 : goal.returns-then-appid-eq0
returns-then-appid-eq0 c = search (c.in_ok-url.was, stages)

pub returns-then-equal : goal.returns-then-equal
returns-then-equal c = search (c.in_ok-url.was, stages)

pub returns-in_default : goal.returns-in_default
returns-in_default c = search (c.in_ok-url.was, stages)

pub returns-then-same_host : goal.returns-then-same_host
returns-then-same_host c = search (c.in_ok-url.was, stages)

pub returns-in_err-fetching : goal.returns-in_err-fetching
returns-in_err-fetching c =
    let p = err_from_is_err_and c.from_residual-in_err-fetching.result c.from_residual-in_err-fetching.ensures.1 in
    rw p.1 (search (p.2, c.in_ok-url.was, c.in_err-fetching.was, stages))

pub returns-in-None : goal.returns-in-None
returns-in-None c = search (c.in_ok-url.was, c.in_ok-fetching.was, stages)

pub returns-in-Some-2 : goal.returns-in-Some-2
returns-in-Some-2 c = search (c.in_ok-url.was, c.in_ok-fetching.was, stages)
