use Prim.Native.Nat.{◌+◌, ◌*◌}
use Rattle.json_values.proofs.+skip_value.Given as goal

abbrev pub decreases-skip_value-skip_listed : goal.decreases-skip_value-skip_listed
decreases-skip_value-skip_listed l = 3 * l.inner + 2

abbrev pub decreases-skip_value-skip_listed+2 : goal.decreases-skip_value-skip_listed+2
decreases-skip_value-skip_listed+2 l = 3 * l.inner + 2

abbrev pub decreases-skip_member : goal.decreases-skip_member
decreases-skip_member l = 3 * l.left + 1

abbrev pub decreases-skip_value : goal.decreases-skip_value
decreases-skip_value l = 3 * l.left
