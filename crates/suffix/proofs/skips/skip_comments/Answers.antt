use Rattle.suffix.proofs.SkipLaws.{skip_laws}
use Rattle.suffix.proofs.skips.skip_comments.Goals as goal

pub loop-next-init : goal.loop-next-init
loop-next-init c = search skip_laws

pub loop-next-preserved : goal.loop-next-preserved
loop-next-preserved c = search skip_laws
