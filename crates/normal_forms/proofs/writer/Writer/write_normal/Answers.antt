use Rattle.normal_forms.proofs.Writings.{write_laws}
use Rattle.normal_forms.proofs.writer.Writer.write_normal.Goals as goal

pub returns-in-Some : goal.returns-in-Some
returns-in-Some c = search write_laws

pub returns-in-None : goal.returns-in-None
returns-in-None c = search write_laws
