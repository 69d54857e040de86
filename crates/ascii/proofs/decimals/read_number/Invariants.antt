use Rattle.ascii.specs.Ascii.{number16}
use Rattle.ascii.proofs.NumberLaws.{Digits}
use Rattle.ascii.proofs.decimals.read_number.Given as goal

abbrev pub invariant-loop-b : goal.invariant-loop-b
invariant-loop-b l = Digits l.s (number16 l.s) l.n l.b-index
