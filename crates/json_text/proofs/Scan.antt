-- A scan over bytes of a kind.
use Rattle.std.specs.Prelude.{if◌then◌else◌}
use mathlib.Core.Path.{◌≡◌, refl, ap, sym, ◌∙◌}
use mathlib.Core.Bool.{Bool, true, false}
use mathlib.Core.List.{[], ◌∷◌}
use Prim.Native.Nat.{ℕ, suc, ◌+◌, ◌≤◌, ◌<◌}
use native.Mathlib.Omega.{arith}
use native.Mathlib.Numerals.{add-one}
use lib.ListN.{length, get_or, drop, drop_of_length-le}
use lib.Seq.{drop-cons}
use native.Mathlib.Nat.{add-zero}
use Rattle.ascii.specs.Ascii.{Bytes, take_while}
use Rattle.ascii.specs.code.Runs.{Answers, RunEnds}
use Rattle.json_text.specs.Reader.{Read, got, more, many, count_while}
use Rattle.json_text.specs.code.Places.{read_at}

module _ (f : ℕ → Bool) (s : Bytes) (i : ℕ) {g : Read (Unit {0})} (e : read_at (many f) s i ≡ g) where
  pub scan_end : length s ≤ i → g ≡ got tt i
  unfolding read_at many more count_while
  scan_end h = sym e ∙ rw (drop_of_length-le s h, add-zero)

  module _ {r : Bool} (h : i < length s) (t : r ≡ f (get_or s i 0)) where
    pub scan_stop : r ≡ false → g ≡ got tt i
    unfolding read_at many more count_while
    scan_stop w = sym e ∙ rw (drop-cons s i 0 h, ← t, w, add-zero)

    pub scan_more : r ≡ true → read_at (many f) s (i + 1) ≡ g
    unfolding read_at many more count_while
    scan_more w = (rw (add-one, drop-cons s i 0 h, ← t, w) (ap (got tt) (omega arith))) ∙ e

-- how many pass, counted
counted_run : (f : ℕ → Bool) (l : Bytes) → length (take_while f l) ≡ count_while f l
unfolding take_while count_while
counted_run f [] = refl
counted_run f (b ∷ l) = go (f b) (counted_run f l)
  where
    go : (u : Bool) → length (take_while f l) ≡ count_while f l → length (if u then b ∷ take_while f l else []) ≡ (if u then suc (count_while f l) else 0)
    go true e = ap suc e
    go false e = refl

-- the run of bytes that pass, read
pub run_read : (f : ℕ → Bool) (s : Bytes) (from : ℕ) {post : ℕ → Bool → Type 0} {r : ℕ} → RunEnds post s from r → Answers post f → read_at (many f) s from ≡ got tt r
unfolding read_at many more
run_read f s from R a = ap (got tt) (sym (R.is f a ∙ ap (λ (n : ℕ). from + n) (counted_run f (drop from s))))
