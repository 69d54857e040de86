-- The laws of hosts, for `search laws`. Assumes nothing.
use borrow.Author.Rules.{rules}
use Rattle.hosts.proofs.Shapes.{class_is, shaped_empty, shaped_long, shaped_first, shaped_last, shaped_yes, host_empty, host_long, host_anyhow, by_starts, by_misshapen, by_ends, by_other, by_more}
use Rattle.hosts.proofs.Places.{skip_starts, skip_here, skip_ends, skip_dot, skip_other, last_all, last_some, address_is, boundary_start, boundary_dot, boundary_none, ends_long, ends_not, ends_rest}

pub ruleset laws = (
  class_is,
  shaped_empty,
  shaped_long,
  shaped_first,
  shaped_last,
  shaped_yes,
  host_empty,
  host_long,
  host_anyhow,
  by_starts,
  by_misshapen,
  by_ends,
  by_other,
  by_more,
  skip_starts,
  skip_here,
  skip_ends,
  skip_dot,
  skip_other,
  last_all,
  last_some,
  address_is,
  boundary_start,
  boundary_dot,
  boundary_none,
  ends_long,
  ends_not,
  ends_rest,
  rules,
)
