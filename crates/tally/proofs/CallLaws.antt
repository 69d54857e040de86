-- The whole tally: a refusal, or the counts of the selected entries.
use mathlib.Core.Path.{◌≡◌}
use Rattle.std.specs.Prelude.{Result, Ok, Err}
use Prim.Native.Nat.{ℕ}
use Rattle.ascii.specs.Ascii.{Bytes}
use Rattle.refusals.specs.declared.Refusal.{Refusal}
use Rattle.entries.specs.code.Selecting.{listed}
use Rattle.entries.specs.declared.selected.Selected.{Selected}
use Rattle.cleaning.specs.code.Meaning.{Prepares}
use Rattle.cleaning.proofs.PrepareLaws.{prepared_refusal, prepared_list}
use Rattle.tally.specs.Tally.{counts, or_tally, tally}
use Rattle.tally.specs.code.Meaning.{counts_of, tally_of}
use Rattle.tally.specs.declared.Counts.{Counts as Held}

module _ {appid : Bytes} {major minor : ℕ} {body table : Bytes} {w : Result Selected Refusal} (P : Prepares appid major minor body table w) where
  pub tally_refused : {x : Refusal} → w ≡ Err x → tally_of (Err x) ≡ tally appid major minor body table
  unfolding tally_of tally or_tally
  tally_refused h = rw (prepared_refusal P h)

  pub tally_counted : {l : Selected} → w ≡ Ok l → (c : Held) → counts_of c ≡ counts l.appid.now l.table.now (listed l) → tally_of (Ok c) ≡ tally appid major minor body table
  unfolding tally_of tally or_tally
  tally_counted h c e = let R = prepared_list P h in rw (R.none_fits, e, R.appid_is, R.table_is, R.listed_as.is, R.body_is)
