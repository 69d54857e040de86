use Rattle.head_items.proofs.WriteLaws.{item_laws}
use Rattle.head_items.proofs.Redirect.item.Goals as goal

pub returns : goal.returns
returns c = search item_laws
