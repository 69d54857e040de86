use Rattle.json_text.proofs.Laws.{escape_laws}
use Rattle.json_text.proofs.escapes.read_hex.Goals as goal

pub returns-in_err-a : goal.returns-in_err-a
returns-in_err-a c = rw c.from_residual.ensures (search escape_laws)

pub overflow_add-i : goal.overflow_add-i
overflow_add-i c = search escape_laws

pub returns-in_err-b : goal.returns-in_err-b
returns-in_err-b c = rw c.from_residual-in_err-b.ensures (search escape_laws)

pub overflow_add-j : goal.overflow_add-j
overflow_add-j c = search escape_laws

pub returns-in_err-c : goal.returns-in_err-c
returns-in_err-c c = rw c.from_residual-in_err-c.ensures (search escape_laws)

pub overflow_add-k : goal.overflow_add-k
overflow_add-k c = search escape_laws

pub returns-in_err-d : goal.returns-in_err-d
returns-in_err-d c = rw c.from_residual-in_err-d.ensures (search escape_laws)

pub overflow_add-result-4 : goal.overflow_add-result-4
overflow_add-result-4 c = search escape_laws

pub returns : goal.returns
returns c = rw (c.from.ensures, c.from-2.ensures, c.from-3.ensures, c.from-4.ensures) (search escape_laws)
