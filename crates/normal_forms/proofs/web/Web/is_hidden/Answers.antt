use Rattle.normal_forms.proofs.Writings.{write_laws}
use Rattle.normal_forms.proofs.web.Web.is_hidden.Goals as goal

pub returns-then-self-from : goal.returns-then-self-from
returns-then-self-from c = search write_laws

pub returns : goal.returns
returns c = search write_laws
