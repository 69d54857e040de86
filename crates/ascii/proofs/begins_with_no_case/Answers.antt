use mathlib.Core.Path.{◌∙◌}
use borrow.Author.Tests.{lt-leb}
use Rattle.std.proofs.Common.{rules, tests}
use Rattle.std.proofs.lemmas.Iterator.{YieldsList-from_slice, YieldsList-from_zip}
use Rattle.std.proofs.lemmas.Iterator.Search.{all_from_yields_List}
use Rattle.ascii.proofs.Compare.{lowers_to, begins_no_case_short, begins_no_case_pairs}
use Rattle.ascii.proofs.begins_with_no_case.Goals as goal

pub returns-then-p-s : goal.returns-then-p-s
returns-then-p-s c = begins_no_case_pairs _ _ c.if-p-s.true (all_from_yields_List (λ q. lowers_to q.0 q.1) c.all.new.self _ _ c.all.ensures.ran (YieldsList-from_zip (YieldsList-from_slice c.args.p.now cc) (YieldsList-from_slice c.args.s.now cc)) (λ x b q k. (search rules, search (rules, tests))))

pub returns-else-p-s : goal.returns-else-p-s
returns-else-p-s c = lt-leb _ _ c.if-p-s.false ∙ begins_no_case_short _ _ c.if-p-s.false
