use Rattle.head_items.proofs.WriteLaws.{answer_laws}
use Rattle.head_items.proofs.write_answer.Goals as goal

pub returns-then-item-lt4 : goal.returns-then-item-lt4
returns-then-item-lt4 c = search answer_laws

pub returns : goal.returns
returns c = search answer_laws
