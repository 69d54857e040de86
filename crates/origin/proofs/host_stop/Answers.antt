use borrow.Author.Rules.{rules}
use Rattle.origin.specs.Origin.{is_host_byte}
use Rattle.origin.proofs.host_stop.Goals as goal

pub returns : goal.returns
returns c = c.run_end.ensures.is is_host_byte (λ b q h e. search rules)
