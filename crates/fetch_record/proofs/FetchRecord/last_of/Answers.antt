use Rattle.fetch_record.proofs.Laws.{laws}
use Rattle.fetch_record.proofs.FetchRecord.last_of.Goals as goal

pub returns-then-n-eq0 : goal.returns-then-n-eq0
returns-then-n-eq0 c = search laws

pub returns : goal.returns
returns c = search laws
