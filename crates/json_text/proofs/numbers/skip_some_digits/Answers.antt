use Rattle.json_text.proofs.Laws.{number_laws}
use Rattle.json_text.proofs.numbers.skip_some_digits.Goals as goal

pub returns-in-Some-48-to-57 : goal.returns-in-Some-48-to-57
returns-in-Some-48-to-57 c = search number_laws

pub returns-in_default : goal.returns-in_default
returns-in_default c = search number_laws

pub returns-in_default-2 : goal.returns-in_default-2
returns-in_default-2 c = search number_laws

pub returns-in_default-3 : goal.returns-in_default-3
returns-in_default-3 c = search number_laws
