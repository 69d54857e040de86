use Rattle.suffix.proofs.SkipLaws.{shallow_own}
use Rattle.suffix.proofs.skips.Kinds.idle_lines.Goals as goal

pub returns : goal.returns
returns c = search shallow_own
