use Rattle.response_head.proofs.FieldLaws.{field_laws}
use Rattle.response_head.proofs.place_by.Goals as goal

pub returns-in-Nowhere : goal.returns-in-Nowhere
returns-in-Nowhere c = search field_laws

pub returns-in-At : goal.returns-in-At
returns-in-At c = search field_laws

pub returns-in-Several : goal.returns-in-Several
returns-in-Several c = search field_laws
