use Rattle.normal_forms.proofs.Writings.{write_laws}
use Rattle.normal_forms.proofs.writer.Writer.write_port.Goals as goal

pub returns-then-is_hidden : goal.returns-then-is_hidden
returns-then-is_hidden c = search write_laws

pub returns : goal.returns
returns c = search write_laws
