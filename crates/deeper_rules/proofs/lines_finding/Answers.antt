use Rattle.deeper_rules.proofs.FindingLaws.{lines_laws, looked, looks_on}
use Rattle.deeper_rules.proofs.lines_finding.Goals as goal

pub loop-found-init : goal.loop-found-init
loop-found-init c = search lines_laws

pub slice_bounds-form_sizes-end : goal.slice_bounds-form_sizes-end
slice_bounds-form_sizes-end c = search lines_laws

pub returns-then-s-end : goal.returns-then-s-end
returns-then-s-end c = search looked

pub loop-found-preserved : goal.loop-found-preserved
loop-found-preserved c = search looks_on
