use Rattle.response_head.proofs.FieldLaws.{field_laws}
use Rattle.response_head.proofs.seen_with.Goals as goal

pub returns-then-equal_no_case : goal.returns-then-equal_no_case
returns-then-equal_no_case c = search field_laws

pub returns-then-equal_no_case-2 : goal.returns-then-equal_no_case-2
returns-then-equal_no_case-2 c = search field_laws

pub returns-then-equal_no_case-3 : goal.returns-then-equal_no_case-3
returns-then-equal_no_case-3 c = search field_laws

pub returns : goal.returns
returns c = search field_laws
