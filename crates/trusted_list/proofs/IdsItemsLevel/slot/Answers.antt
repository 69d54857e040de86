use Rattle.trusted_list.proofs.LevelLaws.{ids_closes}
use Rattle.trusted_list.proofs.IdsItemsLevel.slot.Goals as goal

pub returns : goal.returns
returns c = ids_closes c.ids_slot.ensures
