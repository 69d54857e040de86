use Rattle.fetch_record.proofs.Laws.{record_laws}
use Rattle.fetch_record.proofs.read_end.Goals as goal

pub returns-then-is_empty : goal.returns-then-is_empty
returns-then-is_empty c = search record_laws

pub returns-then-s-ne4 : goal.returns-then-s-ne4
returns-then-s-ne4 c = search record_laws

pub returns-then-s-ne2 : goal.returns-then-s-ne2
returns-then-s-ne2 c = search record_laws

pub returns-in_err-read_answer : goal.returns-in_err-read_answer
returns-in_err-read_answer c = search record_laws

pub returns : goal.returns
returns c = search record_laws
