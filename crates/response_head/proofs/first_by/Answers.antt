use Rattle.response_head.proofs.FieldLaws.{field_laws}
use Rattle.response_head.proofs.first_by.Goals as goal

pub returns : goal.returns
returns c = search field_laws
