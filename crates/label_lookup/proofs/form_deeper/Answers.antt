use Rattle.label_lookup.proofs.FindLaws.{deeper_laws}
use Rattle.label_lookup.proofs.form_deeper.Goals as goal

pub slice_bounds-ends_at_label-count : goal.slice_bounds-ends_at_label-count
slice_bounds-ends_at_label-count c = search deeper_laws

pub slice_bounds-ends_at_label-start : goal.slice_bounds-ends_at_label-start
slice_bounds-ends_at_label-start c = search deeper_laws

pub slice_bounds-name_deeper-count : goal.slice_bounds-name_deeper-count
slice_bounds-name_deeper-count c = search deeper_laws

pub slice_bounds-name_deeper-start : goal.slice_bounds-name_deeper-start
slice_bounds-name_deeper-start c = search deeper_laws

pub name_deeper-requires : goal.name_deeper-requires
name_deeper-requires c = search deeper_laws

pub name_deeper-requires-in-Name : goal.name_deeper-requires-in-Name
name_deeper-requires-in-Name c = search deeper_laws

pub returns-in-Nothing : goal.returns-in-Nothing
returns-in-Nothing c = search deeper_laws

pub returns-in-Star : goal.returns-in-Star
returns-in-Star c = search deeper_laws

pub returns-in-Wild : goal.returns-in-Wild
returns-in-Wild c = search deeper_laws

pub returns-in-Exception : goal.returns-in-Exception
returns-in-Exception c = search deeper_laws

pub returns-in-Name : goal.returns-in-Name
returns-in-Name c = search deeper_laws
