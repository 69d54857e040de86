-- The claims of specs/Demands.antt. Assumes nothing.
use mathlib.Core.Path.{◌≡◌, refl, sym, ap, ◌∙◌}
use mathlib.Core.List.{List, [], ◌∷◌}
use Rattle.std.specs.Prelude.{Option, None, Some}
use Prim.Native.Nat.{ℕ}
use native.Mathlib.Omega.{arith}
use Rattle.ascii.specs.Ascii.{Bytes, filter_by}
use Rattle.refusals.specs.declared.Refusal.{Refusal}
use Rattle.trusted_list.specs.TrustedList.{entries}
use Rattle.entries.specs.Causes.{kept}
use Rattle.entries.proofs.Walks.{kept_less}
use Rattle.decision.specs.Answer.{rule1, rule2, rule3, rule4, fetch, refused}
use Rattle.decision.specs.Decide.{Stage, settled, list_due, before_list, late_refusal, first_match, by_place, unless, by_list, decide}
use Rattle.decision.specs.Location.{fetch_from, if_fetch, fetch_location}
use Rattle.decision.proofs.Padding.{padding_decision}
use Rattle.decision.proofs.Rule4.{rule4_label}
use Rattle.cleaning.specs.Clean.{clean}
use Rattle.cleaning.proofs.Padding.{padding_clean, padding_length, padding_output}
use Rattle.cleaning.proofs.Twice.{clean_twice}
use Rattle.cleaning.proofs.ListLaws.{taken}
use Rattle.tally.proofs.TallyTotal.{tally_total}
use Rattle.head_items.proofs.ReadBackLaws.{read_back, read_back_all}
use Rattle.facets.specs.Cleanings.{clean_number}
use Rattle.facets.specs.Demands.{Padding, Inserted, neither, both, inserted, Insertions, Owners, Locating, Rereading, Recleaning, Totals, ReadingBack, RecordOfHeads}
use Rattle.facets.proofs.Rereading.{re_reading}

pub padding : Padding
padding appid table major minor body₁ body₂ S = record {
  answer = padding_decision appid table major minor body₁ body₂ S;
  refusal = λ before. ap clean_number (padding_clean appid table major minor body₁ body₂ S before);
  len = padding_length appid table major minor body₁ body₂ S;
  output = padding_output appid table major minor body₁ body₂ S;
}

joined : (appid table e : Bytes) (es fs : List Bytes) → kept appid table es ≡ kept appid table fs → kept appid table (e ∷ es) ≡ kept appid table (e ∷ fs)
unfolding kept filter_by
joined appid table e es fs h = rw h

same_kept : (appid table : Bytes) {es fs : List Bytes} → Inserted appid table es fs → kept appid table es ≡ kept appid table fs
same_kept appid table neither = refl
same_kept appid table (both {e} {es} {fs} I) = joined appid table e es fs (same_kept appid table I)
same_kept appid table (inserted {e} {fs} h I) = same_kept appid table I ∙ sym (kept_less appid table e fs h)

pub insertions : Insertions
insertions appid table major minor body₁ body₂ a b I = record { accepted₁ = a; accepted₂ = b; same_kept = same_kept appid table I }

pub owners : Owners
owners caller appid major minor items lent body table origin place web e = rule4_label caller appid table origin web major minor items lent body place e

-- the list answers no fetch
due_other : (x : Option Refusal) (o : Option ℕ) → unless x (by_place o) ≡ fetch → ⊥
due_other (Some x) o e = let z : ◌≡◌ {A = ℕ} 0 1 = cc in absurd (omega arith)
due_other None None e = let z : ◌≡◌ {A = ℕ} 0 1 = cc in absurd (omega arith)
due_other None (Some n) e = let z : ◌≡◌ {A = ℕ} 0 1 = cc in absurd (omega arith)

module _ (caller appid : Bytes) (major minor : ℕ) (body table from : Bytes) where
  stage_fetch : (s : Stage) → by_list caller appid major minor body table s ≡ fetch → if_fetch s from ≡ from
  unfolding by_list if_fetch
  stage_fetch (settled fetch) e = refl
  stage_fetch (settled rule1) e = let z : ◌≡◌ {A = ℕ} 0 1 = cc in absurd (omega arith)
  stage_fetch (settled rule2) e = let z : ◌≡◌ {A = ℕ} 0 1 = cc in absurd (omega arith)
  stage_fetch (settled rule3) e = let z : ◌≡◌ {A = ℕ} 0 1 = cc in absurd (omega arith)
  stage_fetch (settled (rule4 n)) e = let z : ◌≡◌ {A = ℕ} 0 1 = cc in absurd (omega arith)
  stage_fetch (settled (refused r)) e = let z : ◌≡◌ {A = ℕ} 0 1 = cc in absurd (omega arith)
  stage_fetch (list_due a) e = absurd (due_other (late_refusal a major minor body table) (first_match caller (kept appid table (entries major minor body))) e)

  stage_other : (s : Stage) → (by_list caller appid major minor body table s ≡ fetch → ⊥) → if_fetch s from ≡ []
  unfolding by_list if_fetch
  stage_other (settled fetch) n = absurd (n refl)
  stage_other (settled rule1) n = refl
  stage_other (settled rule2) n = refl
  stage_other (settled rule3) n = refl
  stage_other (settled (rule4 k)) n = refl
  stage_other (settled (refused r)) n = refl
  stage_other (list_due a) n = refl

module _ (caller appid : Bytes) (major minor : ℕ) (items lent body table : Bytes) where
  fetch_located : decide caller appid major minor items lent body table ≡ fetch → fetch_location caller appid items lent ≡ fetch_from appid items lent
  unfolding decide fetch_location
  fetch_located = stage_fetch caller appid major minor body table (fetch_from appid items lent) (before_list caller appid items lent)

  other_empty : (decide caller appid major minor items lent body table ≡ fetch → ⊥) → fetch_location caller appid items lent ≡ []
  unfolding decide fetch_location
  other_empty = stage_other caller appid major minor body table (fetch_from appid items lent) (before_list caller appid items lent)

pub locating : Locating
locating caller appid major minor items lent body table = record {
  on_fetch = fetch_located caller appid major minor items lent body table;
  by_other = other_empty caller appid major minor items lent body table;
}

pub rereading : Rereading
rereading appid major minor body table before list e caller items lent =
    let T = taken appid major minor body table before list e in
    ap (λ (x : Bytes). decide caller appid major minor items lent x table) (sym T.is) ∙ re_reading appid table major minor body T.accepted caller items lent

pub recleaning : Recleaning
recleaning appid major minor body table before list e other =
    let T = taken appid major minor body table before list e in
    ap (λ (x : Bytes). clean appid major minor x table other) (sym T.is) ∙ clean_twice appid table major minor body T.accepted other

pub totals : Totals
totals = tally_total

pub reading_back : ReadingBack
reading_back = read_back

pub record_of_heads : RecordOfHeads
record_of_heads lent starts redirects answers items end R A h = read_back_all R A h
