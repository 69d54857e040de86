use Rattle.fetch_record.proofs.Laws.{item_laws}
use Rattle.fetch_record.proofs.item.read_redirect.Goals as goal

pub returns-then-s-lt7 : goal.returns-then-s-lt7
returns-then-s-lt7 c = search item_laws

pub returns-then-redirect-lt300 : goal.returns-then-redirect-lt300
returns-then-redirect-lt300 c = search item_laws

pub returns-then-redirect-gt399 : goal.returns-then-redirect-gt399
returns-then-redirect-gt399 c = search item_laws

pub returns-then-header-gt1 : goal.returns-then-header-gt1
returns-then-header-gt1 c = search item_laws

pub returns : goal.returns
returns c = search item_laws
