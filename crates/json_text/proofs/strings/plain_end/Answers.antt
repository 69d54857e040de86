use Rattle.json_text.proofs.Laws.{plain_laws}
use Rattle.json_text.proofs.strings.plain_end.Goals as goal

pub returns-then-s-from : goal.returns-then-s-from
returns-then-s-from c = search plain_laws

pub returns-then-eq : goal.returns-then-eq
returns-then-eq c = search plain_laws

pub returns-else-eq : goal.returns-else-eq
returns-else-eq c = search plain_laws
