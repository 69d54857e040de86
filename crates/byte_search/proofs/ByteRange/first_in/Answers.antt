use Rattle.byte_search.proofs.RangeLaws.{blocks_laws, block_at}
use Rattle.byte_search.proofs.ByteRange.first_in.Goals as goal

pub returns-then-s-from : goal.returns-then-s-from
returns-then-s-from c = search blocks_laws

pub returns-then-not-is_outside : goal.returns-then-not-is_outside
returns-then-not-is_outside c = search (block_at c.loop-block.invariant c.in-Some.ensures.steps, blocks_laws)

pub overflow_add-result : goal.overflow_add-result
overflow_add-result c = search (block_at c.loop-block.invariant c.in-Some.ensures.steps, blocks_laws)

pub returns-in-Some-first_in_block : goal.returns-in-Some-first_in_block
returns-in-Some-first_in_block c = search (block_at c.loop-block.invariant c.in-Some.ensures.steps, blocks_laws)

pub loop-block-preserved : goal.loop-block-preserved
loop-block-preserved c = search (block_at c.loop-block.invariant c.in-Some.ensures.steps, blocks_laws)
