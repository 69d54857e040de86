use borrow.Author.Rules.{rules}
use Rattle.suffix.proofs.KindLaws.{like_told}
use Rattle.suffix.proofs.skips.is_like.Goals as goal

pub returns : goal.returns
returns c = like_told c.args.last c.args.b c.is_some_and.ensures (λ x p. search rules)
