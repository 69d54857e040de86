use Rattle.entries.proofs.Laws.{owners}
use Rattle.entries.proofs.read_appid.Goals as goal

pub returns-then-appid-gt2048 : goal.returns-then-appid-gt2048
returns-then-appid-gt2048 c = search owners

pub returns-in_default : goal.returns-in_default
returns-in_default c = search owners

pub invariant_of-result : goal.invariant_of-result
invariant_of-result c = search owners

pub returns-then-begins_https : goal.returns-then-begins_https
returns-then-begins_https c = search owners

pub returns : goal.returns
returns c = search owners
