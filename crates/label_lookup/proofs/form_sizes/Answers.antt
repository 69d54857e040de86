use Rattle.label_lookup.proofs.FindLaws.{form_laws}
use Rattle.label_lookup.proofs.form_sizes.Goals as goal

pub slice_bounds-wild_sizes-count : goal.slice_bounds-wild_sizes-count
slice_bounds-wild_sizes-count c = search form_laws

pub slice_bounds-wild_sizes-start : goal.slice_bounds-wild_sizes-start
slice_bounds-wild_sizes-start c = search form_laws

pub slice_bounds-exception_sizes-count : goal.slice_bounds-exception_sizes-count
slice_bounds-exception_sizes-count c = search form_laws

pub slice_bounds-exception_sizes-start : goal.slice_bounds-exception_sizes-start
slice_bounds-exception_sizes-start c = search form_laws

pub returns-in-Nothing : goal.returns-in-Nothing
returns-in-Nothing c = search form_laws

pub returns-in-Star : goal.returns-in-Star
returns-in-Star c = search form_laws

pub returns-in-Wild : goal.returns-in-Wild
returns-in-Wild c = search form_laws

pub returns-in-Exception : goal.returns-in-Exception
returns-in-Exception c = search form_laws

pub returns-in-Name : goal.returns-in-Name
returns-in-Name c = search form_laws
