-- The rulesets of the crate. Assumes nothing.
use borrow.Author.Rules.{rules}
use Rattle.origin.proofs.Readings.{found_low, found_high, found_inside}
use Rattle.matching.proofs.Compared.{hosts_compared, ports_equal, ports_differ, host_no_caller, match_native, host_no_other, host_both, match_no_other, match_both}
use Rattle.matching.proofs.UnlikeSteps.{stop_colon, stop_slash, end_past, end_at, apart_first, apart_second, match_unlike}

-- where the parts of an identifier stand
pub ruleset laws = (found_low, found_high, found_inside, rules)

pub ruleset unlike_laws = (stop_colon, stop_slash, end_past, end_at, apart_first, apart_second, rules)

-- two hosts, two origins, and when they match
pub ruleset match_laws = (
  hosts_compared,
  ports_equal,
  ports_differ,
  host_no_caller,
  host_no_other,
  host_both,
  match_unlike,
  match_native,
  match_no_other,
  match_both,
)
