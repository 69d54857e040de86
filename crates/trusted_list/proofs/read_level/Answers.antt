use borrow.Author.Rules.{rules}
use Rattle.json_text.proofs.Steps.{took, left}
use Rattle.trusted_list.proofs.Walks.{opened, opens, not_opened}
use Rattle.trusted_list.proofs.ShapeLaws.{value_wrong}
use Rattle.trusted_list.proofs.LevelLaws.{level_stuck, level_closed, level_not}
use Rattle.trusted_list.proofs.read_level.Goals as goal

pub returns-in_err-j : goal.returns-in_err-j
returns-in_err-j g c = rw c.from_residual.ensures (level_stuck c.byte_at.ensures _ g.met.L.Level.opens _ (search (opens, opened)) c.walk.ensures (left c.branch-j.ensures c.in_err-j.is))

pub returns-then-eq : goal.returns-then-eq
returns-then-eq g c = level_closed c.byte_at.ensures _ g.met.L.Level.opens _ (search (opens, opened)) c.walk.ensures (took c.branch-j.ensures c.in_ok-j.is) c.slot-x.ensures

pub returns-in_err-j-2 : goal.returns-in_err-j-2
returns-in_err-j-2 g c = rw c.from_residual-in_err-j-2.ensures (value_wrong _ _ _ (rw c.LEFT.ensures at c.skip_value.ensures) (left c.branch-j-2.ensures c.in_err-j-2.is))

pub returns : goal.returns
returns g c = level_not c.byte_at.ensures _ g.met.L.Level.opens _ (g.met.L.Level.else_spoiled c.args.level.now c.args.s.now) (search (not_opened, opened, rules)) (rw c.LEFT.ensures at c.skip_value.ensures) (took c.branch-j-2.ensures c.in_ok-j-2.is)
