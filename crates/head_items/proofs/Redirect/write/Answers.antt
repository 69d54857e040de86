use Rattle.head_items.proofs.WriteLaws.{redirect_laws}
use Rattle.head_items.proofs.Redirect.write.Goals as goal

pub returns : goal.returns
returns c = search redirect_laws
