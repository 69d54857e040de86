use Rattle.fetch_record.proofs.Laws.{item_laws}
use Rattle.fetch_record.proofs.item.read_answer.Goals as goal

pub returns-then-s-lt3 : goal.returns-then-s-lt3
returns-then-s-lt3 c = search item_laws

pub returns-then-seen-gt1 : goal.returns-then-seen-gt1
returns-then-seen-gt1 c = search item_laws

pub returns : goal.returns
returns c = search item_laws
