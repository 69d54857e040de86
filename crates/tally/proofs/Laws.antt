-- The sets of laws that answer needs.
use borrow.Author.Rules.{rules}
use Rattle.tally.proofs.CountLaws.{add_kept, add_long, add_scheme, add_facet, add_label, count_room, count_more}
use Rattle.tally.proofs.CallLaws.{tally_refused, tally_counted}

pub ruleset laws = (add_kept, add_long, add_scheme, add_facet, add_label, rules)

pub ruleset counting = (count_room, rules)

-- its turn alone: a search that fails then tries every way
pub ruleset count_turn = (count_more, rules)

pub ruleset calls = (tally_refused, tally_counted, rules)
