use native.Mathlib.Omega.{arith}
use Rattle.json_text.specs.Lexical.{is_blank}
use Rattle.json_text.proofs.is_blank.Goals as goal

pub returns-then-b-eq10 : goal.returns-then-b-eq10
unfolding is_blank
returns-then-b-eq10 c = grind arith

pub returns-else-b-eq10 : goal.returns-else-b-eq10
unfolding is_blank
returns-else-b-eq10 c = grind arith
