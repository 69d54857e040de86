use Rattle.ascii.proofs.Library.{lower_is}
use mathlib.Core.Path.{◌∙◌}
use Rattle.ascii.proofs.lower_byte.Goals as goal

pub returns : goal.returns
returns c = c.to_ascii_lowercase.ensures.value ∙ lower_is c.args.b
