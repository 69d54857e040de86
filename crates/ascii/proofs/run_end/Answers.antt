use Rattle.std.proofs.Common.{rules, tests, not, drop, take, ◌-◌, length}
use Rattle.std.proofs.lemmas.Iterator.{YieldsList-from_slice}
use Rattle.std.proofs.lemmas.Iterator.Search.{position_from_yields_List}
use Rattle.ascii.proofs.RunLaws.{run_past, run_rest, run_ends}
use Rattle.ascii.proofs.run_end.Goals as goal

pub returns-then-s-from : goal.returns-then-s-from
returns-then-s-from g c = record { is = λ f a. run_past f _ _ c.if-s-from.true }

pub returns : goal.returns
returns g c = let s = c.args.s.now in let from = c.args.from in record { is = λ f a. run_ends f s from (run_rest f s from) (position_from_yields_List (λ b. not (f b)) _ _ _ c.position.ensures.ran (YieldsList-from_slice (take (length s - from) (drop from s)) (search rules)) (λ x b q k. (search rules, search (rules, tests, a)))) c.unwrap_or.ensures }
