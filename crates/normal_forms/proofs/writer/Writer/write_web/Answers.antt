use Rattle.normal_forms.proofs.Writings.{write_laws}
use Rattle.normal_forms.proofs.writer.Writer.write_web.Goals as goal

pub returns-then-not-fits : goal.returns-then-not-fits
returns-then-not-fits c = search write_laws

pub returns : goal.returns
returns c = search write_laws
