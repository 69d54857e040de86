use Rattle.normal_forms.proofs.Writings.{write_laws}
use Rattle.normal_forms.proofs.writer.Writer.write_lower.Goals as goal

pub slice_bounds-make_ascii_lowercase-end : goal.slice_bounds-make_ascii_lowercase-end
slice_bounds-make_ascii_lowercase-end c = search write_laws

pub returns-then-at-self : goal.returns-then-at-self
returns-then-at-self c = search write_laws

pub returns-else-at-self : goal.returns-else-at-self
returns-else-at-self c = search write_laws
