use Rattle.trusted_list.proofs.Laws.{fits, entries}
use Rattle.trusted_list.proofs.next_entry.Goals as goal

pub returns-then-ne : goal.returns-then-ne
returns-then-ne c = search entries

pub overflow_add-k : goal.overflow_add-k
overflow_add-k c = search fits

pub returns : goal.returns
returns c = search entries
