-- The tally as six numbers: the refusal, and the counts (document 01, after the decision).
use Rattle.std.specs.Prelude.{ℕ}
use Rattle.refusals.specs.Number.{refusal_number}
use Rattle.tally.specs.Tally.{Counts, Tally, not_tallied, tallied}

-- 0 where it counted
abbrev pub tally_refusal : Tally → ℕ
tally_refusal (not_tallied r) = refusal_number r
tally_refusal (tallied c) = 0

-- a refusal carries zeros
abbrev pub tally_counts : Tally → Counts
tally_counts (not_tallied r) = record { kept = 0; too_long = 0; other_scheme = 0; not_facet = 0; other_label = 0 }
tally_counts (tallied c) = c
