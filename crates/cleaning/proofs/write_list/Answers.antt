use Rattle.cleaning.proofs.Laws.{list_last, listing}
use Rattle.cleaning.proofs.write_list.Goals as goal

pub write_head-requires : goal.write_head-requires
write_head-requires c = search listing

pub write_ids-requires : goal.write_ids-requires
write_ids-requires c = search listing

pub returns-then-has_room : goal.returns-then-has_room
returns-then-has_room c = search list_last

pub returns : goal.returns
returns c = search listing
