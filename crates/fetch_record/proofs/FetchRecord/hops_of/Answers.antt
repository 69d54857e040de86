use Rattle.fetch_record.proofs.Laws.{laws}
use Rattle.fetch_record.proofs.FetchRecord.hops_of.Goals as goal

pub loop-k-init : goal.loop-k-init
loop-k-init c = search laws

pub hop-requires : goal.hop-requires
hop-requires c = search laws

pub returns-in_err-hop : goal.returns-in_err-hop
returns-in_err-hop c = search laws

pub loop-k-preserved : goal.loop-k-preserved
loop-k-preserved c = search (c.in_ok-hop.was, laws)

pub returns : goal.returns
returns c = search laws
