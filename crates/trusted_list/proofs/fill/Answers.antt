use Rattle.trusted_list.proofs.Laws.{slots}
use Rattle.trusted_list.proofs.fill.Goals as goal

pub returns-in-Absent : goal.returns-in-Absent
returns-in-Absent c = search slots

pub returns-in_default : goal.returns-in_default
returns-in_default c = search slots
