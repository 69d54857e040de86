use Rattle.trusted_list.proofs.Laws.{slots}
use Rattle.trusted_list.proofs.listing_slot.Goals as goal

pub returns-in_default : goal.returns-in_default
returns-in_default c = search slots

pub returns-in-Held-first : goal.returns-in-Held-first
returns-in-Held-first c = search slots

pub returns-in-Other : goal.returns-in-Other
returns-in-Other c = search slots

pub returns-in_default-first : goal.returns-in_default-first
returns-in_default-first c = search slots
