use Rattle.ascii.proofs.Library.{alike_told}
use mathlib.Core.Path.{◌∙◌}
use Rattle.ascii.proofs.alike.Goals as goal

pub returns : goal.returns
returns c = c.eq_ignore_ascii_case.ensures ∙ alike_told c.args.b c.args.c
