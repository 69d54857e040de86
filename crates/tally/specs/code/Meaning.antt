-- What the code of the tally answers, in the terms of Tally.
use Rattle.std.specs.Prelude.{ℕ, ◌+◌, ◌≤◌, Option, None, Some, Result, Ok, Err}
use Rattle.refusals.specs.declared.Refusal.{Refusal}
use Rattle.entries.specs.declared.Cause.{Cause}
use Rattle.entries.specs.declared.Cause.TheVariants.{TooLong, OtherScheme, NotFacet, OtherLabel}
use Rattle.tally.specs.Tally.{Counts, Tally, not_tallied, tallied}
use Rattle.tally.specs.declared.Counts.{Counts as Held}

-- ---- counts

unfoldable pub counts_of : Held → Counts
counts_of c = record { kept = c.kept; too_long = c.long; other_scheme = c.scheme; not_facet = c.facet; other_label = c.label }

unfoldable pub tally_of : Result Held Refusal → Tally
tally_of (Err x) = not_tallied x
tally_of (Ok c) = tallied (counts_of c)

-- one entry: it is kept, or discarded for a cause
unfoldable pub one : Option Cause → Counts
one None = record { kept = 1; too_long = 0; other_scheme = 0; not_facet = 0; other_label = 0 }
one (Some TooLong) = record { kept = 0; too_long = 1; other_scheme = 0; not_facet = 0; other_label = 0 }
one (Some OtherScheme) = record { kept = 0; too_long = 0; other_scheme = 1; not_facet = 0; other_label = 0 }
one (Some NotFacet) = record { kept = 0; too_long = 0; other_scheme = 0; not_facet = 1; other_label = 0 }
one (Some OtherLabel) = record { kept = 0; too_long = 0; other_scheme = 0; not_facet = 0; other_label = 1 }

-- count by count
unfoldable pub plus : Counts → Counts → Counts
plus a b = record {
  kept = a.kept + b.kept;
  too_long = a.too_long + b.too_long;
  other_scheme = a.other_scheme + b.other_scheme;
  not_facet = a.not_facet + b.not_facet;
  other_label = a.other_label + b.other_label;
}

-- no count is above n
pub record Under (n : ℕ) (c : Held) : Type 0 where
  pub kept : c.kept ≤ n
  pub long : c.long ≤ n
  pub scheme : c.scheme ≤ n
  pub facet : c.facet ≤ n
  pub label : c.label ≤ n
