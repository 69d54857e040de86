use Rattle.json_text.proofs.Laws.{decoding_laws}
use Rattle.json_text.proofs.decoding.Decoded.put_part.Goals as goal

pub loop-b-init : goal.loop-b-init
loop-b-init c = search decoding_laws

pub loop-b-preserved : goal.loop-b-preserved
loop-b-preserved c = search decoding_laws
