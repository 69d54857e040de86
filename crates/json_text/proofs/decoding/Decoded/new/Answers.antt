use Rattle.json_text.proofs.Laws.{decoding_laws}
use Rattle.json_text.proofs.decoding.Decoded.new.Goals as goal

pub returns : goal.returns
returns c = search decoding_laws
