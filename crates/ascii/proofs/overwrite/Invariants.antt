use mathlib.Core.Path.{◌≡◌}
use lib.ListN.{take}
use Rattle.ascii.proofs.overwrite.Given as goal

-- the bytes before i are those of x
abbrev pub invariant-loop-i : goal.invariant-loop-i
invariant-loop-i l = take l.i l.out ≡ take l.i l.x
