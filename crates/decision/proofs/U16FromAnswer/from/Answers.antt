use Rattle.decision.proofs.NumberLaws.{numbers}
use Rattle.decision.proofs.U16FromAnswer.from.Goals as goal

pub returns-in-Rule1 : goal.returns-in-Rule1
returns-in-Rule1 c = search numbers

pub returns-in-Rule2 : goal.returns-in-Rule2
returns-in-Rule2 c = search numbers

pub returns-in-Rule3 : goal.returns-in-Rule3
returns-in-Rule3 c = search numbers

pub returns-in-Rule4 : goal.returns-in-Rule4
returns-in-Rule4 c = search numbers

pub returns-in-Fetch : goal.returns-in-Fetch
returns-in-Fetch c = search numbers

pub returns-in-Refused : goal.returns-in-Refused
returns-in-Refused c = search numbers
