use Rattle.json_text.proofs.Laws.{decoding_laws}
use Rattle.json_text.proofs.decoding.Decoded.put.Goals as goal

pub returns-in_default : goal.returns-in_default
returns-in_default c = search decoding_laws

pub returns-then-n-ge512 : goal.returns-then-n-ge512
returns-then-n-ge512 c = search decoding_laws

pub returns : goal.returns
returns c = search decoding_laws
