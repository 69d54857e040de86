use Rattle.json_text.proofs.Laws.{decoding_laws}
use Rattle.json_text.proofs.decoding.Decoded.put_char.Goals as goal

pub returns-in_err-c : goal.returns-in_err-c
returns-in_err-c c = rw c.from_residual.ensures (search decoding_laws)

pub returns-then-eq : goal.returns-then-eq
returns-then-eq c = search decoding_laws

pub returns-in_err-j : goal.returns-in_err-j
returns-in_err-j c = rw c.from_residual-in_err-j.ensures (search decoding_laws)

pub returns : goal.returns
returns c = search decoding_laws
