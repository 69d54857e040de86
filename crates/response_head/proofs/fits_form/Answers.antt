use Rattle.std.proofs.Common.{rules, tests}
use mathlib.Core.Path.{◌∙◌}
use Rattle.std.proofs.lemmas.Iterator.{YieldsList-from_slice, YieldsList-from_zip}
use Rattle.std.proofs.lemmas.Iterator.Search.{all_from_yields_List}
use Rattle.ascii.proofs.Compare.{by_pairs}
use Rattle.response_head.specs.ResponseHead.{fits_byte}
use Rattle.response_head.proofs.fits_form.Goals as goal

pub returns : goal.returns
returns c = all_from_yields_List (λ q. fits_byte q.0 q.1) c.all.new.self _ _ c.all.ensures.ran (YieldsList-from_zip (YieldsList-from_slice c.args.form.now cc) (YieldsList-from_slice c.args.s.now cc)) (λ x b q k. (search rules, search (rules, tests))) ∙ by_pairs fits_byte _ _ c.requires
