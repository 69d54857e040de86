use Rattle.suffix.proofs.SkipLaws.{skip_laws}
use Rattle.suffix.proofs.skips.idle_lines.Goals as goal

pub loop-at-init : goal.loop-at-init
loop-at-init c = search skip_laws

pub slice_bounds-is_idle-count : goal.slice_bounds-is_idle-count
slice_bounds-is_idle-count c = search skip_laws

pub slice_bounds-is_idle-start : goal.slice_bounds-is_idle-start
slice_bounds-is_idle-start c = search skip_laws

pub slice_bounds-is_idle-end : goal.slice_bounds-is_idle-end
slice_bounds-is_idle-end c = search skip_laws

pub overflow_add-at : goal.overflow_add-at
overflow_add-at c = search skip_laws

pub loop-at-preserved-then-is_idle : goal.loop-at-preserved-then-is_idle
loop-at-preserved-then-is_idle c = search skip_laws

pub loop-at-smaller-then-is_idle : goal.loop-at-smaller-then-is_idle
loop-at-smaller-then-is_idle c = search skip_laws

pub returns-else-is_idle : goal.returns-else-is_idle
returns-else-is_idle c = search skip_laws

pub skip_comments-next-requires : goal.skip_comments-next-requires
skip_comments-next-requires c = search skip_laws

pub returns-then-next-start : goal.returns-then-next-start
returns-then-next-start c = search skip_laws

pub loop-at-preserved : goal.loop-at-preserved
loop-at-preserved c = search skip_laws

pub loop-at-smaller : goal.loop-at-smaller
loop-at-smaller c = search skip_laws
