use borrow.Author.Rules.{rules}
use Rattle.json_text.proofs.Holding.{name_tested}
use Rattle.json_text.proofs.Laws.{decoding_laws}
use Rattle.json_text.proofs.decoding.is_name.Goals as goal

pub returns-in_default : goal.returns-in_default
returns-in_default c = search decoding_laws

pub returns : goal.returns
returns c = name_tested _ _ _ c.decode_string.ensures c.in-Some.is _ _ c.held.ensures c.is_some_and.ensures (λ x p. search rules)
