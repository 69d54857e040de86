use Rattle.facets.proofs.DecideLaws.{after_other}
use Rattle.facets.proofs.Laws.{answers}
use Rattle.facets.proofs.place_after.Goals as goal

pub overflow_cast-result : goal.overflow_cast-result
overflow_cast-result c = search answers

pub returns-in-Rule4 : goal.returns-in-Rule4
returns-in-Rule4 c = search answers

pub returns-in_default : goal.returns-in_default
returns-in_default c = after_other c.args.before c.args.a c.in_default.not-Rule4
