-- All the laws of the crate, for `search`. Assumes nothing.
use borrow.Author.Rules.{rules}
use Rattle.fetch_record.proofs.ItemLaws.{fields_are, redirect_short, redirect_low, redirect_high, redirect_flag, redirect_read, answer_short, answer_flag, answer_read_lem}
use Rattle.fetch_record.proofs.RecordLaws.{end_none, end_long, end_kind, end_answer, end_bad, count_starts, count_full, count_end, count_other, count_short, count_bad, count_out, count_more, lay_front, front_fits, front_long, lay_end, lay_bad}
use Rattle.fetch_record.proofs.HopLaws.{redirect_is, hop_inside, hop_long, hop_open, hop_end, hop_bad, hop_good, hops_start, hops_end, hops_refused, hops_more, layout_placed, settle_bad, settle_refused, settle_passed, target_bad, target_there, last_none, last_part, last_long}

pub ruleset item_laws = (fields_are, redirect_short, redirect_low, redirect_high, redirect_flag, redirect_read, answer_short, answer_flag, answer_read_lem, rules)

pub ruleset record_laws = (end_none, end_long, end_kind, end_answer, end_bad, count_starts, count_full, count_end, count_other, count_short, count_bad, count_out, count_more, lay_front, front_fits, front_long, lay_end, lay_bad, rules)

-- one redirect more: alone, so that a search that finds nothing ends
pub ruleset more_laws = (count_more)

pub ruleset laws = (redirect_is, hop_inside, hop_long, hop_open, hop_end, hop_bad, hop_good, hops_start, hops_end, hops_refused, hops_more, layout_placed, settle_bad, settle_refused, settle_passed, target_bad, target_there, last_none, last_part, last_long, rules)

-- for a return: its law alone, so that a search that finds nothing ends
pub ruleset redirect_laws = (redirect_read)

pub ruleset answer_laws = (answer_read_lem)
