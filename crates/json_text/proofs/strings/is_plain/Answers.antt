use native.Mathlib.Omega.{arith}
use Rattle.json_text.specs.code.PlainString.{is_plain}
use Rattle.json_text.proofs.strings.is_plain.Goals as goal

pub returns-then-b-ne34 : goal.returns-then-b-ne34
unfolding is_plain
returns-then-b-ne34 c = grind arith

pub returns-else-b-ne34 : goal.returns-else-b-ne34
unfolding is_plain
returns-else-b-ne34 c = grind arith
