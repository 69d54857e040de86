-- The exported tally: a refusal and zeros, or zero and the counts. Assumes nothing.
use Rattle.std.specs.Prelude.{Result, Ok, Err}
use mathlib.Core.Path.{◌≡◌, sym, ◌∙◌}
use Prim.Native.Nat.{ℕ}
use Rattle.refusals.specs.declared.Refusal.{Refusal}
use Rattle.refusals.specs.Number.{refusal_number}
use Rattle.tally.specs.Tally.{Tally, not_tallied, tallied}
use Rattle.tally.specs.code.Meaning.{counts_of, tally_of}
use Rattle.tally.specs.declared.Counts.{Counts as Held}
use Rattle.facets.specs.TallyFields.{tally_refusal, tally_counts}

module _ {t : Result Held Refusal} (y : Tally) (e : tally_of t ≡ y) where
  module _ {x : Refusal} (h : t ≡ Err x) where
    refused : y ≡ not_tallied x
    unfolding tally_of
    refused = sym e ∙ rw h

    pub no_tally : {n : ℕ} → n ≡ refusal_number x → n ≡ tally_refusal y
    no_tally f = rw refused f

    pub no_kept : 0 ≡ (tally_counts y).kept
    no_kept = rw refused

    pub no_long : 0 ≡ (tally_counts y).too_long
    no_long = rw refused

    pub no_scheme : 0 ≡ (tally_counts y).other_scheme
    no_scheme = rw refused

    pub no_facet : 0 ≡ (tally_counts y).not_facet
    no_facet = rw refused

    pub no_label : 0 ≡ (tally_counts y).other_label
    no_label = rw refused

  module _ {c : Held} (h : t ≡ Ok c) where
    counted : y ≡ tallied (counts_of c)
    unfolding tally_of
    counted = sym e ∙ rw h

    pub counted_number : 0 ≡ tally_refusal y
    counted_number = rw counted

    pub counted_kept : c.kept ≡ (tally_counts y).kept
    unfolding counts_of
    counted_kept = rw counted

    pub counted_long : c.long ≡ (tally_counts y).too_long
    unfolding counts_of
    counted_long = rw counted

    pub counted_scheme : c.scheme ≡ (tally_counts y).other_scheme
    unfolding counts_of
    counted_scheme = rw counted

    pub counted_facet : c.facet ≡ (tally_counts y).not_facet
    unfolding counts_of
    counted_facet = rw counted

    pub counted_label : c.label ≡ (tally_counts y).other_label
    unfolding counts_of
    counted_label = rw counted
