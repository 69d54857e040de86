use borrow.Author.Rules.{rules}
use mathlib.Core.Path.{◌∙◌}
use Rattle.suffix.proofs.KindLaws.{last_is, kinds_filled}
use Rattle.suffix.proofs.skips.kinds_by.Goals as goal

pub returns : goal.returns
returns c = kinds_filled c.args.classes.now c.copied-last.result (λ b k q h. search rules) c.args.host.now c.from_fn.result (last_is c.args.host.now (c.copied-last.ensures ∙ c.last.ensures.value)) c.from_fn.ensures.items
