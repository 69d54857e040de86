use Rattle.json_text.proofs.Laws.{ascii_laws}
use Rattle.json_text.proofs.strings.skip_ascii_string.Goals as goal

pub returns-then-ne : goal.returns-then-ne
returns-then-ne c = search ascii_laws

pub overflow_add-from : goal.overflow_add-from
overflow_add-from c = search ascii_laws

pub overflow_add-result : goal.overflow_add-result
overflow_add-result c = search ascii_laws

pub returns-then-eq : goal.returns-then-eq
returns-then-eq c = search ascii_laws

pub returns-else-eq : goal.returns-else-eq
returns-else-eq c = search ascii_laws
