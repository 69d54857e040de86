use Rattle.trusted_list.proofs.Laws.{fits, entries}
use Rattle.trusted_list.proofs.first_entry.Goals as goal

pub returns-then-ne : goal.returns-then-ne
returns-then-ne c = search entries

pub overflow_add-ids : goal.overflow_add-ids
overflow_add-ids c = search fits

pub returns-then-eq : goal.returns-then-eq
returns-then-eq c = search entries

pub returns : goal.returns
returns c = search entries
