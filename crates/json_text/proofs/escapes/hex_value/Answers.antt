use native.Mathlib.Omega.{arith}
use Rattle.json_text.specs.Lexical.{hex_value}
use Rattle.json_text.proofs.escapes.hex_value.Goals as goal

pub returns-in-48-to-57 : goal.returns-in-48-to-57
unfolding hex_value
returns-in-48-to-57 c = grind arith

pub returns-in-65-to-70 : goal.returns-in-65-to-70
unfolding hex_value
returns-in-65-to-70 c = grind arith

pub returns-in-97-to-102 : goal.returns-in-97-to-102
unfolding hex_value
returns-in-97-to-102 c = grind arith

pub returns-in_default : goal.returns-in_default
unfolding hex_value
returns-in_default c = grind arith

pub returns-in_default-2 : goal.returns-in_default-2
unfolding hex_value
returns-in_default-2 c = grind arith

pub returns-in_default-3 : goal.returns-in_default-3
unfolding hex_value
returns-in_default-3 c = grind arith

pub returns-in_default-4 : goal.returns-in_default-4
unfolding hex_value
returns-in_default-4 c = grind arith
