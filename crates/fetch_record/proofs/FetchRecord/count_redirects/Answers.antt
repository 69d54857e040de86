use Rattle.fetch_record.proofs.Laws.{record_laws, more_laws}
use Rattle.fetch_record.proofs.FetchRecord.count_redirects.Goals as goal

pub loop-n-init : goal.loop-n-init
loop-n-init c = search record_laws

pub returns-then-self-at : goal.returns-then-self-at
returns-then-self-at c = search record_laws

pub returns-then-self-at-ne1 : goal.returns-then-self-at-ne1
returns-then-self-at-ne1 c = search record_laws

pub returns-then-self-at-lt8 : goal.returns-then-self-at-lt8
returns-then-self-at-lt8 c = search record_laws

pub returns-in_err-h : goal.returns-in_err-h
returns-in_err-h c = search record_laws

pub returns-then-self-location_end : goal.returns-then-self-location_end
returns-then-self-location_end c = search (c.in_ok-h.was, record_laws)

pub loop-n-preserved : goal.loop-n-preserved
loop-n-preserved c = search (c.in_ok-h.was, more_laws)

pub returns : goal.returns
returns c = search record_laws
