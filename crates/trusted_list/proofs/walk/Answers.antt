use Prim.Native.Nat.{◌-◌}
use borrow.Author.Rules.{rules}
use Rattle.trusted_list.specs.code.Levels.{read_item}
use Rattle.trusted_list.proofs.Walks.{extending_goes_on, started, closed, walked}
use Rattle.trusted_list.proofs.walk.Goals as goal

pub fold_listed-requires-clause-ahead : goal.fold_listed-requires-clause-ahead
fold_listed-requires-clause-ahead g c = extending_goes_on {R = g.L.Level.holds c.args.level.now c.args.s.now} {p = read_item g.L.Level.KIND (g.L.Level.LEFT - 1)} {s = c.args.s.now} (record { is = λ i x q e. e })

pub returns : goal.returns
returns g c = walked g.L.Level.KIND (g.L.Level.LEFT - 1) c.fold_listed.ensures (record { is = λ i x q e. e }) (started (g.L.Level.holds c.args.level.now c.args.s.now) (g.met.L.Level.starts c.args.level.now c.args.s.now) c.start.ensures c.KIND-kind.ensures) (search (closed, rules))
