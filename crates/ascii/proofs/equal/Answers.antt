use Rattle.ascii.proofs.Library.{same_told}
use mathlib.Core.Path.{◌∙◌}
use Rattle.ascii.proofs.equal.Goals as goal

pub returns : goal.returns
returns c = c.eq.ensures ∙ same_told c.args.s.now c.args.t.now
