use Rattle.fetch_record.proofs.Laws.{item_laws}
use Rattle.fetch_record.proofs.item.redirect_in.Goals as goal

pub returns : goal.returns
returns c = search item_laws
