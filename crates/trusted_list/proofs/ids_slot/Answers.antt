use Rattle.trusted_list.proofs.Laws.{slots}
use Rattle.trusted_list.proofs.ids_slot.Goals as goal

pub returns-in-Other : goal.returns-in-Other
returns-in-Other c = search slots

pub returns-in_default : goal.returns-in_default
returns-in_default c = search slots
