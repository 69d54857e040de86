use Rattle.fetch_record.proofs.RecordLaws.{Counting}
use Rattle.fetch_record.proofs.FetchRecord.count_redirects.Given as goal

abbrev pub invariant-loop-n : goal.invariant-loop-n
invariant-loop-n l = Counting l.self.items.now l.self.text.now l.n
