use Rattle.json_text.proofs.Laws.{number_laws}
use Rattle.json_text.proofs.numbers.skip_sign.Goals as goal

pub returns-in-Some-eq43 : goal.returns-in-Some-eq43
returns-in-Some-eq43 c = search number_laws

pub returns-in_default : goal.returns-in_default
returns-in_default c = search number_laws

pub returns-in_default-2 : goal.returns-in_default-2
returns-in_default-2 c = search number_laws
