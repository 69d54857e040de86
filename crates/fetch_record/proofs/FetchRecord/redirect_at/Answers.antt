use Rattle.fetch_record.proofs.Laws.{laws}
use Rattle.fetch_record.proofs.FetchRecord.redirect_at.Goals as goal

pub returns : goal.returns
returns c = search laws
