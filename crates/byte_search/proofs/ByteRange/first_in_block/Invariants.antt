use Rattle.byte_search.proofs.RangeLaws.{Block}
use Rattle.byte_search.proofs.ByteRange.first_in_block.Given as goal

abbrev pub invariant-loop-k : goal.invariant-loop-k
invariant-loop-k l = Block l.self.lo l.self.hi l.block 0 l.r l.k
