-- The sets of laws that answer needs.
use borrow.Author.Rules.{rules}
use Rattle.cleaning.proofs.SizeLaws.{fits_first, fits_later, id_first, id_later, size_fits, size_held}
use Rattle.cleaning.proofs.WriteLaws.{opening_first, opening_later, id_wrote, write_pass, write_add}
use Rattle.cleaning.proofs.PrepareLaws.{prepare_bad, prepare_foreign, prepare_selected, prepared_as}
use Rattle.cleaning.proofs.ListLaws.{digits_inside, digits_length, digits_few, digits_wrote, head_wrote, room_body, room_told, sum_first, sum_second, sum_third, list_full, head_room, ids_room, list_done, clean_refused, clean_listed}

pub ruleset laws = (fits_first, fits_later, id_first, id_later, opening_first, opening_later, id_wrote, rules)

pub ruleset size_asks = (size_fits, size_held, rules)

-- the turns of write_ids and the last return of write_list, each alone: a search that fails then tries every way
pub ruleset write_turn = (write_pass, write_add, rules)

pub ruleset list_last = (list_done)

pub ruleset preparing = (prepare_bad, prepare_foreign, prepare_selected, rules)

pub ruleset numbers = (digits_inside, digits_length, digits_few, digits_wrote, rules)

pub ruleset heading = (head_wrote, rules)

pub ruleset rooms = (room_body, room_told, sum_first, sum_second, sum_third, rules)

pub ruleset listing = (list_full, head_room, ids_room, rules)

pub ruleset cleaning = (prepared_as, clean_refused, clean_listed, rules)
