use Rattle.trusted_list.proofs.Laws.{slots}
use Rattle.trusted_list.proofs.earlier.Goals as goal

pub returns-in-Other : goal.returns-in-Other
returns-in-Other c = search slots

pub returns-in-Held-y : goal.returns-in-Held-y
returns-in-Held-y c = search slots

pub returns-in-Other-y : goal.returns-in-Other-y
returns-in-Other-y c = search slots

pub returns-in_default-y : goal.returns-in_default-y
returns-in_default-y c = search slots

pub returns-in_default : goal.returns-in_default
returns-in_default c = search slots
