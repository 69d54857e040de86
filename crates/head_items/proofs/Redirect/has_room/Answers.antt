use Rattle.head_items.proofs.WriteLaws.{byte_laws}
use Rattle.head_items.proofs.Redirect.has_room.Goals as goal

pub returns-then-item-lt8 : goal.returns-then-item-lt8
returns-then-item-lt8 c = search byte_laws

pub returns-then-text-self : goal.returns-then-text-self
returns-then-text-self c = search byte_laws

pub returns : goal.returns
returns c = search byte_laws
