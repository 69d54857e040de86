use native.Mathlib.Omega.{arith}
use Rattle.json_text.specs.code.PlainString.{is_ascii_char}
use Rattle.json_text.proofs.strings.is_ascii_char.Goals as goal

pub returns-then-matches : goal.returns-then-matches
unfolding is_ascii_char
returns-then-matches c = grind arith

pub returns-else-matches : goal.returns-else-matches
unfolding is_ascii_char
returns-else-matches c = grind arith
