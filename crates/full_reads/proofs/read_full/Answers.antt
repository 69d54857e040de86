use Rattle.full_reads.proofs.Grown.{takes_more}
use Rattle.full_reads.proofs.read_full.Goals as goal

pub loop-done-preserved : goal.loop-done-preserved
loop-done-preserved g c = takes_more _ _ _ c.loop-done.done c.in_ok-n.n c.loop-done.buf c.read.new.buf c.in_ok-n.ensures.bound.0 c.loop-done.invariant c.in_ok-n.ensures.bytes.0
