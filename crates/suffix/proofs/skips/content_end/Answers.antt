use Rattle.suffix.proofs.LineEnds.{content_first, content_laws, content_turn}
use Rattle.suffix.proofs.skips.content_end.Goals as goal

pub loop-i-init : goal.loop-i-init
loop-i-init c = search content_first

pub loop-i-preserved : goal.loop-i-preserved
loop-i-preserved c = search content_turn

pub returns-then-not-in_content : goal.returns-then-not-in_content
returns-then-not-in_content c = search content_laws

pub returns : goal.returns
returns c = search content_laws
