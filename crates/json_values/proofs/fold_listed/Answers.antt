use Rattle.json_text.proofs.Steps.{took, left}
use Rattle.json_values.proofs.Folding.{fold_bad, fold_end, fold_other, fold_less, fold_more}
use Rattle.json_values.proofs.Laws.{fits, listed_laws}
use Rattle.json_values.proofs.fold_listed.Goals as goal

pub returns-then-eq : goal.returns-then-eq
returns-then-eq g c = search listed_laws

pub loop-item-init : goal.loop-item-init
loop-item-init g c = search listed_laws

pub returns-in_err-j : goal.returns-in_err-j
returns-in_err-j g c = rw c.from_residual.ensures (fold_bad c.loop-item.invariant c.item.ensures (left c.branch-j.ensures c.in_err-j.is))

pub overflow_add-result-then-eq-2 : goal.overflow_add-result-then-eq-2
overflow_add-result-then-eq-2 g c = search fits

pub returns-then-eq-2 : goal.returns-then-eq-2
returns-then-eq-2 g c = fold_end c.loop-item.invariant c.item.ensures (took c.branch-j.ensures c.in_ok-j.is) c.skip_blanks-k.ensures c.byte_at-b.ensures c.eq-in-loop-item.ensures c.if-eq-2.true

pub returns-then-ne : goal.returns-then-ne
returns-then-ne g c = fold_other c.loop-item.invariant c.item.ensures (took c.branch-j.ensures c.in_ok-j.is) c.skip_blanks-k.ensures c.byte_at-b.ensures c.eq-in-loop-item.ensures c.ne.ensures (search fits) c.if-eq-2.false c.if-ne.true

pub overflow_add-k : goal.overflow_add-k
overflow_add-k g c = search fits

pub loop-item-smaller : goal.loop-item-smaller
loop-item-smaller g c = fold_less c.loop-item.invariant c.item.ensures (took c.branch-j.ensures c.in_ok-j.is) c.skip_blanks-k.ensures c.byte_at-b.ensures c.eq-in-loop-item.ensures c.ne.ensures c.if-ne.false c.skip_blanks-at.ensures c.requires.ahead

pub loop-item-preserved : goal.loop-item-preserved
loop-item-preserved g c = fold_more c.loop-item.invariant c.item.ensures (took c.branch-j.ensures c.in_ok-j.is) c.skip_blanks-k.ensures c.byte_at-b.ensures c.eq-in-loop-item.ensures c.ne.ensures c.if-ne.false c.skip_blanks-at.ensures (search fits) c.if-eq-2.false
