use Rattle.normal_forms.proofs.Writings.{write_laws}
use Rattle.normal_forms.proofs.web.Web.length.Goals as goal

pub returns-then-is_hidden : goal.returns-then-is_hidden
returns-then-is_hidden c = search write_laws

pub returns-else-is_hidden : goal.returns-else-is_hidden
returns-else-is_hidden c = search write_laws
