use Rattle.json_text.proofs.Laws.{escape_laws}
use Rattle.json_text.proofs.escapes.read_escape.Goals as goal

pub returns-in-Some-eq34 : goal.returns-in-Some-eq34
returns-in-Some-eq34 c = search escape_laws

pub returns-in-Some-eq92 : goal.returns-in-Some-eq92
returns-in-Some-eq92 c = search escape_laws

pub returns-in-Some-eq47 : goal.returns-in-Some-eq47
returns-in-Some-eq47 c = search escape_laws

pub returns-in-Some-eq98 : goal.returns-in-Some-eq98
returns-in-Some-eq98 c = search escape_laws

pub returns-in-Some-eq102 : goal.returns-in-Some-eq102
returns-in-Some-eq102 c = search escape_laws

pub returns-in-Some-eq110 : goal.returns-in-Some-eq110
returns-in-Some-eq110 c = search escape_laws

pub returns-in-Some-eq114 : goal.returns-in-Some-eq114
returns-in-Some-eq114 c = search escape_laws

pub returns-in-Some-eq116 : goal.returns-in-Some-eq116
returns-in-Some-eq116 c = search escape_laws

pub returns-in-Some-eq117 : goal.returns-in-Some-eq117
returns-in-Some-eq117 c = search escape_laws

pub returns-in_default : goal.returns-in_default
returns-in_default c = search escape_laws

pub returns-in_default-2 : goal.returns-in_default-2
returns-in_default-2 c = search escape_laws
