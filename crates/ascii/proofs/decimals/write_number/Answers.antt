use Rattle.ascii.proofs.NumberLaws.{number_laws}
use Rattle.ascii.proofs.decimals.write_number.Goals as goal

pub digit-a-requires : goal.digit-a-requires
digit-a-requires c = search number_laws

pub returns-then-n-lt10 : goal.returns-then-n-lt10
returns-then-n-lt10 c = search number_laws

pub digit-b-requires : goal.digit-b-requires
digit-b-requires c = search number_laws

pub returns-then-tens-lt10 : goal.returns-then-tens-lt10
returns-then-tens-lt10 c = search number_laws

pub digit-c-requires : goal.digit-c-requires
digit-c-requires c = search number_laws

pub returns-then-hundreds-lt10 : goal.returns-then-hundreds-lt10
returns-then-hundreds-lt10 c = search number_laws

pub digit-d-requires : goal.digit-d-requires
digit-d-requires c = search number_laws

pub returns-then-thousands-lt10 : goal.returns-then-thousands-lt10
returns-then-thousands-lt10 c = search number_laws

pub digit-e-requires : goal.digit-e-requires
digit-e-requires c = search number_laws

pub returns : goal.returns
returns c = search number_laws
