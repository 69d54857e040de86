use Rattle.trusted_list.proofs.Laws.{slots}
use Rattle.trusted_list.proofs.version_slot.Goals as goal

pub returns-in_default : goal.returns-in_default
returns-in_default c = search slots

pub returns-in_default-second : goal.returns-in_default-second
returns-in_default-second c = search slots

pub returns-then-m-from : goal.returns-then-m-from
returns-then-m-from c = search slots

pub returns-then-n-from : goal.returns-then-n-from
returns-then-n-from c = search slots

pub returns : goal.returns
returns c = search slots
