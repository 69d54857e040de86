-- The sets of laws that answer needs.
use borrow.Author.Rules.{rules}
use Rattle.entries.proofs.FoldLaws.{folding_may, folding_more}
use Rattle.entries.proofs.OwnerLaws.{appid_long, appid_other, appid_no_url, host_ends, appid_url, owner_kept, other_none, other_deeper, other_end}
use Rattle.entries.proofs.CauseLaws.{judge_long, judge_no_origin, judge_start, judge_end, judge_other, judge_kept, judge_native, judge_no_native, judge_scheme, judge_host}
use Rattle.entries.proofs.Tellings.{select_unselected, select_there, select_short, select_no_table, select_owned, select_all}
use Rattle.entries.proofs.ReadLaws.{decodes_escaped, plain_low, plain_high, plain_from, plain_behind, decodes_plain, read_wrong, read_over, read_judged}
use Rattle.entries.proofs.Walks.{walk_stands, walk_starts, walk_over, walk_ends, walk_stays, walk_advances}

pub ruleset owners = (appid_long, appid_other, appid_no_url, host_ends, appid_url, owner_kept, rules)

-- cause 4
pub ruleset others = (other_none, other_deeper, other_end, rules)

pub ruleset laws = (judge_long, judge_no_origin, judge_start, judge_end, judge_other, judge_kept, judge_native, judge_no_native, judge_scheme, judge_host, rules)

-- the ways out of read_entry, each alone: a search that fails then tries every way
pub ruleset read_stuck = (read_wrong)

pub ruleset read_long = (read_over, rules)

pub ruleset read_last = (read_judged, rules)

pub ruleset reading = (decodes_escaped, plain_low, plain_high, plain_from, plain_behind, decodes_plain, rules)

pub ruleset selecting = (select_unselected, select_there, select_short, select_no_table, select_owned, select_all, rules)

pub ruleset walking = (walk_stands, walk_starts, walk_over, walk_ends, walk_stays, walk_advances, rules)

pub ruleset folding = (folding_may, folding_more, rules)
