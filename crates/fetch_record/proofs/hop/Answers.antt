use Rattle.fetch_record.proofs.Laws.{laws}
use Rattle.fetch_record.proofs.hop.Goals as goal

pub returns-then-not-h : goal.returns-then-not-h
returns-then-not-h c = search laws

pub slice_bounds-https_url-end : goal.slice_bounds-https_url-end
slice_bounds-https_url-end c = search laws

pub returns-in-Some : goal.returns-in-Some
returns-in-Some c = search laws

pub returns-in-None : goal.returns-in-None
returns-in-None c = search laws
