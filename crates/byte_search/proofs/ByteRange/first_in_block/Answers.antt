use Rattle.byte_search.proofs.RangeLaws.{block_laws}
use Rattle.byte_search.proofs.ByteRange.first_in_block.Goals as goal

pub loop-k-init : goal.loop-k-init
loop-k-init c = search block_laws

pub loop-k-preserved : goal.loop-k-preserved
loop-k-preserved c = search block_laws

pub returns-then-r-lt64 : goal.returns-then-r-lt64
returns-then-r-lt64 c = search block_laws

pub returns-else-r-lt64 : goal.returns-else-r-lt64
returns-else-r-lt64 c = search block_laws
