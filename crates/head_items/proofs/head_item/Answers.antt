use Rattle.head_items.proofs.WriteLaws.{head_laws}
use Rattle.head_items.proofs.head_item.Goals as goal

pub returns-in_default : goal.returns-in_default
returns-in_default c = search head_laws

pub invariant_of-redirect : goal.invariant_of-redirect
invariant_of-redirect c = search head_laws

pub returns-in-Answer : goal.returns-in-Answer
returns-in-Answer c = search head_laws

pub returns-in-Redirect : goal.returns-in-Redirect
returns-in-Redirect c = search head_laws
