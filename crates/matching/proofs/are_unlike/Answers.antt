use Rattle.std.proofs.Common.{◌≡◌, false, true, rules, tests}
use Rattle.std.proofs.lemmas.Iterator.{IsFirst-from_position, YieldsList-from_slice, YieldsList-from_zip}
use Rattle.matching.proofs.UnlikeSteps.{alike, unlike_found}
use Rattle.matching.proofs.are_unlike.Goals as goal

pub returns : goal.returns
unfolding alike
returns c =
    unlike_found c.args.x.now c.args.y.now c.part-p.result.now c.part-q.result.now (search rules) (search rules) c.position-at.result c.min-end.ensures
    (IsFirst-from_position c.position-at.new.self _ _ (λ p. alike p ≡ false) (λ p. alike p ≡ true) c.position-at.ensures.ran (YieldsList-from_zip (YieldsList-from_slice c.part-p.result.now cc) (YieldsList-from_slice c.part-q.result.now cc)) (λ x q k. search (rules, tests)) (λ x q k. search (rules, tests)))
    c.unwrap_or.ensures c.are_apart.ensures
