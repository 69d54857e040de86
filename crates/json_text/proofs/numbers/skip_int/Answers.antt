use native.Mathlib.Omega.{arith}
use Rattle.json_text.proofs.NumberSteps.{int_some, int_high}
use Rattle.json_text.proofs.Laws.{number_laws}
use Rattle.json_text.proofs.numbers.skip_int.Goals as goal

pub returns-in-Some-eq48 : goal.returns-in-Some-eq48
returns-in-Some-eq48 c = search number_laws

pub returns-in-Some-49-to-57 : goal.returns-in-Some-49-to-57
returns-in-Some-49-to-57 c = int_some c.byte_at.ensures c.in-Some-49-to-57.is (omega arith) (omega arith) c.skip_digits.ensures

pub returns-in_default : goal.returns-in_default
returns-in_default c = search number_laws

pub returns-in_default-2 : goal.returns-in_default-2
returns-in_default-2 c = int_high c.byte_at.ensures c.in_default.is (grind arith)

pub returns-in_default-3 : goal.returns-in_default-3
returns-in_default-3 c = search number_laws
