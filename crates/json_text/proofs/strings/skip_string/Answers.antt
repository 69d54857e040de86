use Rattle.json_text.proofs.Laws.{string_laws}
use Rattle.json_text.proofs.strings.skip_string.Goals as goal

pub returns-then-eq : goal.returns-then-eq
returns-then-eq c = search string_laws

pub returns-else-eq : goal.returns-else-eq
returns-else-eq c = search string_laws
