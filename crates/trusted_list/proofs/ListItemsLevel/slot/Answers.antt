use Rattle.trusted_list.proofs.LevelLaws.{list_closes}
use Rattle.trusted_list.proofs.ListItemsLevel.slot.Goals as goal

pub returns : goal.returns
returns c = list_closes c.args.two
