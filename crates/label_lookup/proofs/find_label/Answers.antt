use Rattle.label_lookup.proofs.LookLaws.{label_laws}
use Rattle.label_lookup.proofs.find_label.Goals as goal

pub returns-then-not-is_host : goal.returns-then-not-is_host
returns-then-not-is_host c = search label_laws

pub returns-then-is_address : goal.returns-then-is_address
returns-then-is_address c = search label_laws

pub returns-in_err-look_up : goal.returns-in_err-look_up
returns-in_err-look_up c = rw c.from_residual.ensures (search label_laws)

pub returns : goal.returns
returns c = search label_laws
