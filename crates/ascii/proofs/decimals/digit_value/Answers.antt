use Rattle.ascii.proofs.NumberLaws.{number_laws}
use Rattle.ascii.proofs.decimals.digit_value.Goals as goal

pub overflow_sub-b : goal.overflow_sub-b
overflow_sub-b c = search number_laws

pub returns : goal.returns
returns c = search number_laws
