use Rattle.label_lookup.proofs.OwnerLaws.{owner_laws}
use Rattle.label_lookup.proofs.find_owner.Goals as goal

pub returns-in_err-found : goal.returns-in_err-found
returns-in_err-found c = search owner_laws

pub returns-in_default : goal.returns-in_default
returns-in_default c = search owner_laws

pub returns-in-Some-deeper : goal.returns-in-Some-deeper
returns-in-Some-deeper c = search owner_laws

pub returns : goal.returns
returns c = search owner_laws
