use Rattle.suffix.proofs.skips.Kinds.new.Goals as goal

pub invariant_of-result : goal.invariant_of-result
invariant_of-result c = record { gives = search (c.kinds_by-table.ensures.is) }
