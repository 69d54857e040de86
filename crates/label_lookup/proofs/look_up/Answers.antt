use Rattle.label_lookup.proofs.LookLaws.{lookup_laws}
use Rattle.label_lookup.proofs.look_up.Goals.{then-n-found, else-n-found}
use Rattle.label_lookup.proofs.look_up.Goals as goal

pub returns-in_err-found : goal.returns-in_err-found
returns-in_err-found c = search lookup_laws

pub returns-then-not-is_host : goal.returns-then-not-is_host
returns-then-not-is_host c = search lookup_laws

pub returns-then-is_address : goal.returns-then-is_address
returns-then-is_address c = search lookup_laws

pub returns-then-n-label_count : goal.returns-then-n-label_count
returns-then-n-label_count c = elim c.if-n-found.branch [ then-n-found w ↦ search lookup_laws | else-n-found w ↦ search lookup_laws ]

pub returns : goal.returns
returns c = search lookup_laws
