use Rattle.origin.specs.Origin.{is_tail_byte}
use Rattle.origin.proofs.Laws.{laws}
use Rattle.origin.proofs.is_tail.Goals as goal

pub returns-then-is_empty : goal.returns-then-is_empty
returns-then-is_empty c = search laws

pub returns-then-begins_tail : goal.returns-then-begins_tail
returns-then-begins_tail c = search (c.run_end.ensures.is is_tail_byte (λ b q h e. e), laws)

pub returns-else-begins_tail : goal.returns-else-begins_tail
returns-else-begins_tail c = search laws
