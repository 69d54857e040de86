use Rattle.deeper_rules.proofs.FindingLaws.{pass_laws}
use Rattle.deeper_rules.proofs.pass_finding.Goals as goal

pub returns-in-Some : goal.returns-in-Some
returns-in-Some c = search pass_laws

pub returns-in-None : goal.returns-in-None
returns-in-None c = search pass_laws
