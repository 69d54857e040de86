-- What is done are the next bytes, at the start of the room.
use Rattle.std.proofs.Common.{◌-◌, length}
use Rattle.full_reads.specs.FullRead.{TakesFirst}
use Rattle.full_reads.proofs.read_full.Given as goal

abbrev pub invariant-loop-done : goal.invariant-loop-done
invariant-loop-done g l = TakesFirst (g.R.Read.remaining l.initial.reader) (g.R.Read.remaining l.reader) l.buf l.done

abbrev pub decreases-loop-done : goal.decreases-loop-done
decreases-loop-done g l = length l.buf - l.done
