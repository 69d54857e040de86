use Rattle.normal_forms.proofs.Writings.{write_laws}
use Rattle.normal_forms.proofs.web.Web.read.Goals as goal

pub returns-in_err-p : goal.returns-in_err-p
returns-in_err-p c = search write_laws

pub returns : goal.returns
returns c = search write_laws
