-- The tally (document 01, after the decision).
use Rattle.std.specs.Prelude.{List, ℕ, ◌+◌, length, eqb, Option, None, Some}
use Rattle.ascii.specs.Ascii.{Bytes, filter_by}
use Rattle.refusals.specs.declared.Refusal.{Refusal}
use Rattle.trusted_list.specs.TrustedList.{entries}
use Rattle.entries.specs.Causes.{cause}
use Rattle.entries.specs.declared.Cause.{Cause}
use Rattle.entries.specs.declared.Cause.TheVariants.{TooLong, OtherScheme, NotFacet, OtherLabel}
use Rattle.cleaning.specs.Clean.{clean_refusal}

-- 1 to 4 a cause, 0 kept
abbrev pub cause_number : Option Cause → ℕ
cause_number None = 0
cause_number (Some TooLong) = 1
cause_number (Some OtherScheme) = 2
cause_number (Some NotFacet) = 3
cause_number (Some OtherLabel) = 4

-- kept entries and each of the four causes
pub record Counts : Type 0 where
  pub kept : ℕ
  pub too_long : ℕ
  pub other_scheme : ℕ
  pub not_facet : ℕ
  pub other_label : ℕ

abbrev pub total : Counts → ℕ
total c = c.kept + c.too_long + c.other_scheme + c.not_facet + c.other_label

unfoldable pub count_of : ℕ → Bytes → Bytes → List Bytes → ℕ
count_of k appid table es = length (filter_by (λ e. eqb (cause_number (cause appid table e)) k) es)

unfoldable pub counts : Bytes → Bytes → List Bytes → Counts
counts appid table es = record {
  kept = count_of 0 appid table es;
  too_long = count_of 1 appid table es;
  other_scheme = count_of 2 appid table es;
  not_facet = count_of 3 appid table es;
  other_label = count_of 4 appid table es;
}

pub data Tally : Type 0 where
  not_tallied : Refusal → Tally
  tallied : Counts → Tally

unfoldable pub or_tally : Option Refusal → Counts → Tally
or_tally None c = tallied c
or_tally (Some r) c = not_tallied r

-- refused as cleaning is, but for refusal 15
unfoldable pub tally : Bytes → ℕ → ℕ → Bytes → Bytes → Tally
tally appid major minor body table = or_tally (clean_refusal appid major minor body table) (counts appid table (entries major minor body))
