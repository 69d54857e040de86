use borrow.Author.Rules.{rules}
use Rattle.hosts.proofs.Shapes.{label_ends}
use Rattle.hosts.proofs.label_end.Goals as goal

pub returns : goal.returns
returns c = label_ends c.args.classes.now c.args.s.now c.args.from _ c.run_end.ensures (λ b q h e. search rules)
