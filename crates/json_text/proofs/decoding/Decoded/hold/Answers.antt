use Rattle.json_text.proofs.Laws.{decoding_laws}
use Rattle.json_text.proofs.decoding.Decoded.hold.Goals as goal

pub returns-else-n-le512 : goal.returns-else-n-le512
returns-else-n-le512 c = search decoding_laws

pub returns-then-n-le512 : goal.returns-then-n-le512
returns-then-n-le512 c = search decoding_laws
