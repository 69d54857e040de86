use Rattle.json_text.proofs.Laws.{number_laws}
use Rattle.json_text.proofs.numbers.skip_frac.Goals as goal

pub returns-then-eq : goal.returns-then-eq
returns-then-eq c = search number_laws

pub returns-else-eq : goal.returns-else-eq
returns-else-eq c = search number_laws
