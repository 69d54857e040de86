use Rattle.fetch_record.proofs.HopLaws.{Hopping}
use Rattle.fetch_record.proofs.FetchRecord.hops_of.Given as goal

abbrev pub invariant-loop-k : goal.invariant-loop-k
invariant-loop-k l = Hopping l.self.items.now l.self.text.now l.n l.k
