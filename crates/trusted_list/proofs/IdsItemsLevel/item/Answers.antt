use Rattle.trusted_list.proofs.Laws.{levels}
use Rattle.trusted_list.proofs.IdsItemsLevel.item.Goals as goal

pub returns : goal.returns
returns c = search levels
