use mathlib.Core.Path.{refl}
use Rattle.label_lookup.proofs.PassLaws.{pass_laws}
use Rattle.label_lookup.proofs.RoundLaws.{round_more}
use Rattle.label_lookup.proofs.deep_lines.Goals as goal

pub loop-found-init : goal.loop-found-init
loop-found-init c = search pass_laws

pub returns-in_err-line : goal.returns-in_err-line
returns-in_err-line c = rw c.from_residual.ensures (search pass_laws)

pub overflow_add-at : goal.overflow_add-at
overflow_add-at c = search pass_laws

pub loop-found-smaller : goal.loop-found-smaller
loop-found-smaller c = search pass_laws

pub loop-found-preserved : goal.loop-found-preserved
loop-found-preserved c = round_more c.loop-found.invariant c.next_candidate.ensures c.in-Some.is c.of.ensures c.line_finds.ensures c.short_end-at.ensures c.in_ok-line.was c.join-sizes.ensures c.max-depth.ensures c.deeper_tail-start.ensures refl

pub returns : goal.returns
returns c = search pass_laws
