use Rattle.std.specs.Slice.Iter.{chunks_exact_rest, chunks_exact_size}
use Rattle.byte_search.specs.code.Ranges.{outside}
use Rattle.byte_search.proofs.RangeLaws.{Blocks}
use Rattle.byte_search.proofs.ByteRange.first_in.Given as goal

abbrev pub invariant-loop-block : goal.invariant-loop-block
invariant-loop-block l = Blocks (outside l.self.lo l.self.hi) l.s l.from l.i (chunks_exact_size l.block-iterator) (chunks_exact_rest l.block-iterator)
