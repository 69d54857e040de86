use Rattle.response_head.proofs.FieldLaws.{field_laws}
use Rattle.response_head.proofs.read_status.Goals as goal

pub returns-then-line-lt13 : goal.returns-then-line-lt13
returns-then-line-lt13 c = search field_laws

pub returns-then-fits_form : goal.returns-then-fits_form
returns-then-fits_form c = search field_laws

pub returns-else-fits_form : goal.returns-else-fits_form
returns-else-fits_form c = search field_laws
