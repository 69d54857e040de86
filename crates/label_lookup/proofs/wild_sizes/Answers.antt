use Rattle.label_lookup.proofs.FindLaws.{wild_laws}
use Rattle.label_lookup.proofs.wild_sizes.Goals as goal

pub overflow_add-label_count : goal.overflow_add-label_count
overflow_add-label_count c = search wild_laws

pub returns-then-v-host : goal.returns-then-v-host
returns-then-v-host c = search wild_laws

pub returns : goal.returns
returns c = search wild_laws
