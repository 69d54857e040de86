use Rattle.label_lookup.proofs.PassLaws.{pass_laws}
use Rattle.label_lookup.proofs.line_finds.Goals as goal

pub invariant_of-line : goal.invariant_of-line
invariant_of-line c = search pass_laws

pub form_depth-depth-requires : goal.form_depth-depth-requires
form_depth-depth-requires c = search pass_laws

pub returns-then-is_good : goal.returns-then-is_good
returns-then-is_good c = search pass_laws

pub returns : goal.returns
returns c = search pass_laws
