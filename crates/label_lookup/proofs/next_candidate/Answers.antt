use Rattle.label_lookup.proofs.PassLaws.{next_answers}
use Rattle.label_lookup.proofs.next_candidate.Goals as goal

pub returns-then-table-from : goal.returns-then-table-from
returns-then-table-from c = search next_answers

pub returns : goal.returns
returns c = search next_answers
