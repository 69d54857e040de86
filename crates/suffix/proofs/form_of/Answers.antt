use Rattle.suffix.proofs.FormLaws.{form_laws}
use Rattle.suffix.proofs.form_of.Goals as goal

pub returns-then-is_empty : goal.returns-then-is_empty
returns-then-is_empty c = search form_laws

pub returns-then-w-gt47 : goal.returns-then-w-gt47
returns-then-w-gt47 c = search form_laws

pub returns-then-begins_with : goal.returns-then-begins_with
returns-then-begins_with c = search form_laws

pub returns-then-equal : goal.returns-then-equal
returns-then-equal c = search form_laws

pub returns-then-begins_with-2 : goal.returns-then-begins_with-2
returns-then-begins_with-2 c = search form_laws

pub returns-then-begins_with-3 : goal.returns-then-begins_with-3
returns-then-begins_with-3 c = search form_laws

pub returns : goal.returns
returns c = search form_laws
