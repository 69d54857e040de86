use mathlib.Core.Path.{◌∙◌}
use borrow.Author.Tests.{ne_eqb}
use Rattle.std.proofs.Common.{rules, tests}
use Rattle.std.proofs.lemmas.Iterator.{YieldsList-from_zip}
use Rattle.std.proofs.lemmas.Iterator.Adapters.{YieldsList-from_rev_slice}
use Rattle.std.proofs.lemmas.Iterator.Search.{all_from_yields_List}
use Rattle.ascii.proofs.Compare.{lowers_alike, pairs_from_end, apart_by_length}
use Rattle.ascii.proofs.equal_no_case_from_end.Goals as goal

pub returns-then-s-t : goal.returns-then-s-t
returns-then-s-t c = all_from_yields_List (λ q. lowers_alike q.0 q.1) c.all.new.self _ _ c.all.ensures.ran (YieldsList-from_zip (YieldsList-from_rev_slice c.args.s.now cc) (YieldsList-from_rev_slice c.args.t.now cc)) (λ x b q k. (search rules, search (rules, tests))) ∙ pairs_from_end _ _ (search rules)

pub returns-else-s-t : goal.returns-else-s-t
returns-else-s-t c = ne_eqb _ _ c.if-s-t.false ∙ apart_by_length _ _ (search rules)
