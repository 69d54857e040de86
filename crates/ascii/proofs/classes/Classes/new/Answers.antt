use Rattle.ascii.proofs.ClassTable.{classes_rule}
use Rattle.ascii.proofs.classes.Classes.new.Goals as goal

pub invariant_of-result : goal.invariant_of-result
invariant_of-result c = record { classifies = classes_rule }
