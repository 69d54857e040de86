use Rattle.ascii.proofs.Library.{begins_told}
use mathlib.Core.Path.{◌∙◌}
use Rattle.ascii.proofs.begins_with.Goals as goal

pub returns : goal.returns
returns c = c.starts_with.ensures.value ∙ begins_told c.args.p.now c.args.s.now
