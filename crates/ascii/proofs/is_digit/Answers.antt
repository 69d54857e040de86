use Rattle.ascii.proofs.Library.{digit_is_told}
use mathlib.Core.Path.{◌∙◌}
use Rattle.ascii.proofs.is_digit.Goals as goal

pub returns : goal.returns
returns c = c.is_ascii_digit.ensures.value ∙ digit_is_told c.args.b
