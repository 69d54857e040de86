use Rattle.cleaning.proofs.Laws.{heading}
use Rattle.cleaning.proofs.write_head.Goals as goal

pub returns : goal.returns
returns c = search heading
