-- The laws of the pass over the table, for `search pass_laws`. Assumes nothing.
use borrow.Author.Rules.{rules}
use Rattle.suffix.proofs.Climbs.{past_is}
use Rattle.suffix.proofs.IdleLines.{tail_whole}
use Rattle.label_lookup.proofs.FindLaws.{told_good}
use Rattle.label_lookup.proofs.RoundLaws.{line_wrong, line_found, round_starts, next_none, next_some, round_ends, round_fits, round_smaller, round_wrong}

pub ruleset pass_laws = (
  told_good,
  past_is,
  line_wrong,
  line_found,
  round_starts,
  round_ends,
  round_fits,
  round_smaller,
  round_wrong,
  rules,
)

-- of `tail_start`
pub ruleset tail_laws = (tail_whole, rules)

-- of the answers of `next_candidate` alone, so that a search that fails tries every way
pub ruleset next_answers = (next_none, next_some)
