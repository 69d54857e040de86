use Rattle.label_lookup.proofs.FindLaws.{good_laws}
use Rattle.label_lookup.proofs.is_good.Goals as goal

pub slice_bounds-is_wild-count : goal.slice_bounds-is_wild-count
slice_bounds-is_wild-count c = search good_laws

pub slice_bounds-is_wild-start : goal.slice_bounds-is_wild-start
slice_bounds-is_wild-start c = search good_laws

pub slice_bounds-is_exception-count : goal.slice_bounds-is_exception-count
slice_bounds-is_exception-count c = search good_laws

pub slice_bounds-is_exception-start : goal.slice_bounds-is_exception-start
slice_bounds-is_exception-start c = search good_laws

pub returns-in-Nothing : goal.returns-in-Nothing
returns-in-Nothing c = search good_laws

pub returns-in-Star : goal.returns-in-Star
returns-in-Star c = search good_laws

pub returns-in-Wild : goal.returns-in-Wild
returns-in-Wild c = search good_laws

pub returns-in-Exception : goal.returns-in-Exception
returns-in-Exception c = search good_laws

pub returns-in-Name : goal.returns-in-Name
returns-in-Name c = search good_laws
