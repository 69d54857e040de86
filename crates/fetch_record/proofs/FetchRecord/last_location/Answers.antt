use Rattle.fetch_record.proofs.Laws.{laws}
use Rattle.fetch_record.proofs.FetchRecord.last_location.Goals as goal

pub returns-in_err-lay : goal.returns-in_err-lay
returns-in_err-lay c = rw c.from_residual.ensures (search (c.in_err-lay.was, laws))

pub returns : goal.returns
returns c = search (c.in_ok-lay.was, laws)
