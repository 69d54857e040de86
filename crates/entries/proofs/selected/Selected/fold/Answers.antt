use Rattle.entries.proofs.FoldLaws.{folding_starts, folding_over, folding_less}
use Rattle.entries.proofs.Laws.{folding}
use Rattle.entries.proofs.selected.Selected.fold.Goals as goal

pub loop-cause-init : goal.loop-cause-init
loop-cause-init g c = folding_starts c.entries-entries.ensures c.requires.callable

pub turn-made-requires : goal.turn-made-requires
turn-made-requires g c = search folding

pub loop-cause-smaller : goal.loop-cause-smaller
loop-cause-smaller g c = folding_less c.loop-cause.invariant c.advance.ensures c.in-Some.is

pub loop-cause-preserved : goal.loop-cause-preserved
loop-cause-preserved g c = search folding

pub returns : goal.returns
returns g c = folding_over c.loop-cause.invariant c.advance.ensures c.in_default.is
