use Rattle.head_items.proofs.WriteLaws.{put_laws}
use Rattle.head_items.proofs.Redirect.put.Goals as goal

pub item-requires : goal.item-requires
item-requires c = search put_laws

pub returns : goal.returns
returns c = search put_laws
