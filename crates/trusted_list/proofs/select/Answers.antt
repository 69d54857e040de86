use Rattle.trusted_list.proofs.Laws.{selections}
use Rattle.trusted_list.proofs.select.Goals as goal

pub returns-then-body-gt65536 : goal.returns-then-body-gt65536
returns-then-body-gt65536 c = search selections

pub returns-in_default : goal.returns-in_default
returns-in_default c = search selections

pub returns-then-k-body : goal.returns-then-k-body
returns-then-k-body c = search selections

pub returns-in-Held : goal.returns-in-Held
returns-in-Held c = search selections

pub returns-in-Other : goal.returns-in-Other
returns-in-Other c = search selections

pub returns-in-Absent : goal.returns-in-Absent
returns-in-Absent c = search selections

pub returns-in-Spoiled : goal.returns-in-Spoiled
returns-in-Spoiled c = search selections
