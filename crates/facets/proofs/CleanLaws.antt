-- The exported cleaning: its refusal, its length, every byte of the output, and demand 3. Assumes nothing.
use Rattle.std.specs.Prelude.{Result, Ok, Err}
use mathlib.Core.Path.{◌≡◌, refl, sym, ap, ◌∙◌}
use Prim.Native.Nat.{ℕ}
use native.Mathlib.Omega.{arith}
use mir.Syntax.{w32}
use mir.Val.{Fits}
use lib.ListN.{length}
use Rattle.ascii.specs.Ascii.{Bytes, written_over}
use Rattle.refusals.specs.declared.Refusal.{Refusal}
use Rattle.refusals.specs.Number.{refusal_number}
use Rattle.cleaning.specs.Clean.{Cleaned, not_cleaned, cleaned, clean, cleaned_length, output_after}
use Rattle.cleaning.specs.code.Meaning.{Cleans, refuses, writes}
use Rattle.cleaning.proofs.ListLaws.{cleaned_small}
use Rattle.cleaning.proofs.Padding.{padding_clean}
use Rattle.facets.specs.Cleanings.{clean_number, SameOutput}

record Refuses (before after : Bytes) (c : Cleaned) (x : Refusal) : Type 0 where
  is : c ≡ not_cleaned x
  stays : after ≡ before

record Writes (before after : Bytes) (c : Cleaned) (n : ℕ) : Type 0 where
  list : Bytes
  is : c ≡ cleaned list
  long : n ≡ length list
  out : after ≡ written_over list before

cleans_refused : {before after : Bytes} {c : Cleaned} {r : Result ℕ Refusal} {x : Refusal} → Cleans before after c r → r ≡ Err x → Refuses before after c x
cleans_refused (refuses {x = y} e) h = record { is = ap not_cleaned cc; stays = e }
cleans_refused (writes e f) h = let z : ◌≡◌ {A = ℕ} 0 1 = cc in absurd (omega arith)

cleans_written : {before after : Bytes} {c : Cleaned} {r : Result ℕ Refusal} {n : ℕ} → Cleans before after c r → r ≡ Ok n → Writes before after c n
cleans_written (refuses e) h = let z : ◌≡◌ {A = ℕ} 0 1 = cc in absurd (omega arith)
cleans_written {n} (writes {list} {n = m} e f) h = let y : m ≡ n = cc in record { list = list; is = refl; long = sym y ∙ e; out = f }

module _ (appid : Bytes) (major minor : ℕ) (body table before : Bytes) {after : Bytes} {r : Result ℕ Refusal} (C : Cleans before after (clean appid major minor body table before) r) where
  -- the three promises, and the same of every other body
  same_output : {refusal len : ℕ} → refusal ≡ clean_number (clean appid major minor body table before) → len ≡ cleaned_length (clean appid major minor body table before)
      → after ≡ output_after before (clean appid major minor body table before) → SameOutput refusal len before after appid major minor body table
  same_output e f g = record {
    is_refusal = λ other S. e ∙ ap clean_number (padding_clean appid table major minor body other S before);
    is_length = λ other S. f ∙ ap cleaned_length (padding_clean appid table major minor body other S before);
    is_output = λ other S. g ∙ ap (output_after before) (padding_clean appid table major minor body other S before);
  }

  module _ {x : Refusal} (h : r ≡ Err x) where
    R : Refuses before after (clean appid major minor body table before) x
    R = cleans_refused C h

    pub refused_number : {n : ℕ} → n ≡ refusal_number x → n ≡ clean_number (clean appid major minor body table before)
    refused_number e = rw R.is e

    pub refused_length : 0 ≡ cleaned_length (clean appid major minor body table before)
    refused_length = rw R.is

    pub refused_output : after ≡ output_after before (clean appid major minor body table before)
    refused_output = rw R.is R.stays

    pub refused_same : {n : ℕ} → n ≡ refusal_number x → SameOutput n 0 before after appid major minor body table
    refused_same e = same_output (refused_number e) refused_length refused_output

  module _ {n : ℕ} (h : r ≡ Ok n) where
    W : Writes before after (clean appid major minor body table before) n
    W = cleans_written C h

    pub written_fits : Fits w32 n
    written_fits = record { fits = omega (arith, W.long, cleaned_small appid major minor body table before W.list W.is) }

    pub written_number : 0 ≡ clean_number (clean appid major minor body table before)
    written_number = rw W.is

    pub written_length : n ≡ cleaned_length (clean appid major minor body table before)
    written_length = rw W.is W.long

    pub written_output : after ≡ output_after before (clean appid major minor body table before)
    written_output = rw W.is W.out

    pub written_same : SameOutput 0 n before after appid major minor body table
    written_same = same_output written_number written_length written_output
