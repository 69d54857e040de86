use Rattle.std.proofs.Common.{rules}
use Rattle.response_head.proofs.ByteLaws.{trim_some, trim_none}
use Rattle.response_head.proofs.trim_end.Goals as goal

pub returns-in-Some : goal.returns-in-Some
returns-in-Some c = trim_some c.args.s.now c.args.from c.iter.ensures.rest c.requires (search rules) (search rules) (search rules)

pub returns-in-None : goal.returns-in-None
returns-in-None c = trim_none c.args.s.now c.args.from c.iter.ensures.rest c.requires (search rules)
