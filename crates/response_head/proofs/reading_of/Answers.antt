use Rattle.response_head.proofs.HeadLaws.{head_laws}
use Rattle.response_head.proofs.reading_of.Goals as goal

pub returns-then-status-lt300 : goal.returns-then-status-lt300
returns-then-status-lt300 c = search head_laws

pub returns-then-status-gt399 : goal.returns-then-status-gt399
returns-then-status-gt399 c = search head_laws

pub returns-in-At : goal.returns-in-At
returns-in-At c = search head_laws

pub returns-in-Nowhere : goal.returns-in-Nowhere
returns-in-Nowhere c = search head_laws

pub returns-in-Several : goal.returns-in-Several
returns-in-Several c = search head_laws
