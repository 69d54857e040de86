use Rattle.tally.proofs.Laws.{laws}
use Rattle.tally.proofs.add.Goals as goal

pub returns-in-None : goal.returns-in-None
returns-in-None c = search laws

pub returns-in-Some-TooLong : goal.returns-in-Some-TooLong
returns-in-Some-TooLong c = search laws

pub returns-in-Some-OtherScheme : goal.returns-in-Some-OtherScheme
returns-in-Some-OtherScheme c = search laws

pub returns-in-Some-NotFacet : goal.returns-in-Some-NotFacet
returns-in-Some-NotFacet c = search laws

pub returns-in-Some-OtherLabel : goal.returns-in-Some-OtherLabel
returns-in-Some-OtherLabel c = search laws
