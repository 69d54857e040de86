use Rattle.fetch_record.proofs.Laws.{record_laws}
use Rattle.fetch_record.proofs.FetchRecord.lay.Goals as goal

pub returns-in_err-count : goal.returns-in_err-count
returns-in_err-count c = search record_laws

pub returns-in_err-answer : goal.returns-in_err-answer
returns-in_err-answer c = rw c.from_residual-in_err-answer.ensures (search (c.in_ok-count.was, c.in_err-answer.was, record_laws))

pub returns : goal.returns
returns c = search (c.in_ok-count.was, c.in_ok-answer.was, record_laws)
