use Rattle.json_text.proofs.Laws.{unescaped_laws}
use Rattle.json_text.proofs.unescaped.skip_unescaped.Goals as goal

pub returns-in-Some-32-to-33 : goal.returns-in-Some-32-to-33
returns-in-Some-32-to-33 c = search unescaped_laws

pub returns-in-Some-35-to-91 : goal.returns-in-Some-35-to-91
returns-in-Some-35-to-91 c = search unescaped_laws

pub returns-in-Some-93-to-127 : goal.returns-in-Some-93-to-127
returns-in-Some-93-to-127 c = search unescaped_laws

pub returns-in-Some-128-to-255 : goal.returns-in-Some-128-to-255
returns-in-Some-128-to-255 c = search unescaped_laws

pub returns-in_default : goal.returns-in_default
returns-in_default c = search unescaped_laws

pub returns-in_default-2 : goal.returns-in_default-2
returns-in_default-2 c = search unescaped_laws

pub returns-in_default-3 : goal.returns-in_default-3
returns-in_default-3 c = search unescaped_laws

pub returns-in_default-4 : goal.returns-in_default-4
returns-in_default-4 c = search unescaped_laws
