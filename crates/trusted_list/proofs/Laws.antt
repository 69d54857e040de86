-- The sets of laws that answer needs.
pub use Rattle.json_text.proofs.Laws.{fits}
use Rattle.json_text.proofs.Steps.{wide_is, wide_isnt, not_this, isnt_this}
use Rattle.trusted_list.proofs.SlotLaws.{slot_laws}
use Rattle.trusted_list.proofs.MemberLaws.{member_stuck, skip_stuck, first_named, second_named, both_kept, one_named, one_kept}
use Rattle.trusted_list.proofs.ShapeLaws.{value_wrong, value_start, value_end, number_not, number_held, major_minor}
use Rattle.trusted_list.proofs.LevelLaws.{ids_item_stuck, ids_item_string, ids_item_other, ids_item_short, list_item_stuck, list_item_more, facets_short, version_ids}
use Rattle.trusted_list.proofs.SelectLaws.{select_long, select_bad, select_more, select_absent, select_spoiled, select_none, select_ids}
use Rattle.trusted_list.proofs.EntryLaws.{entry_laws}

pub ruleset entries = (entry_laws, wide_is, wide_isnt, not_this, isnt_this, fits)

pub ruleset slots = (slot_laws, fits)

pub ruleset laws = (value_wrong, value_start, value_end, number_not, number_held, fits)

pub ruleset members = (major_minor, version_ids, facets_short, member_stuck, skip_stuck, first_named, second_named, both_kept, one_named, one_kept, fits)

pub ruleset levels = (value_wrong, ids_item_stuck, ids_item_string, ids_item_other, ids_item_short, list_item_stuck, list_item_more, wide_is, not_this, fits)

pub ruleset selections = (select_long, select_bad, select_more, select_absent, select_spoiled, select_none, select_ids, fits)
