use native.Mathlib.Omega.{arith}
use Rattle.json_text.proofs.Chars.{char_two}
use Rattle.json_text.proofs.Laws.{string_laws}
use Rattle.json_text.proofs.strings.skip_char.Goals as goal

pub returns-in_err-j : goal.returns-in_err-j
returns-in_err-j c = rw c.from_residual.ensures (search string_laws)

pub returns-then-eq : goal.returns-then-eq
returns-then-eq c = search string_laws

pub overflow_add-from-in-Some-194-to-223 : goal.overflow_add-from-in-Some-194-to-223
overflow_add-from-in-Some-194-to-223 c = search string_laws

pub returns-in-Some-194-to-223 : goal.returns-in-Some-194-to-223
returns-in-Some-194-to-223 c = char_two c.byte_at-b.ensures c.eq.ensures c.if-eq.false c.in-Some-194-to-223.is (grind arith) (grind arith) c.skip_range.ensures

pub returns : goal.returns
returns c = search string_laws
