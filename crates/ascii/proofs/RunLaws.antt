-- A run of bytes that pass a test. Assumes nothing.
use Rattle.std.specs.Prelude.{cond, Option, None, Some, unwrap_or, if◌then◌else◌}
use Rattle.std.specs.List.{position_or_len}
use Rattle.std.proofs.lemmas.List.Recursion.{is_position_or_len}
use mathlib.Core.Path.{◌≡◌, refl, ◌∙◌}
use mathlib.Core.Bool.{Bool, true, false, not}
use mathlib.Core.List.{[], ◌∷◌}
use Prim.Native.Nat.{ℕ, ◌+◌, ◌-◌, ◌≤◌}
use native.Mathlib.Omega.{arith}
use lib.Dec.{ltb}
use lib.ListN.{length, take, drop, length-drop}
use lib.Seq.{take_all}
use borrow.Author.Tests.{ltb-false}
use Rattle.ascii.specs.Ascii.{Bytes, take_while}
use Rattle.ascii.proofs.Scan.{while_length, scan_end}

step_ends : (f : ℕ → Bool) (b : ℕ) (l : Bytes) → length (take_while f (b ∷ l)) ≡ cond (not (f b)) 0 (1 + length (take_while f l))
unfolding take_while
step_ends f b l = go (f b)
  where
    go : (u : Bool) → length (if u then b ∷ take_while f l else []) ≡ cond (not u) 0 (1 + length (take_while f l))
    go true = omega arith
    go false = refl

none_ends : (f : ℕ → Bool) → length (take_while f []) ≡ 0
unfolding take_while
none_ends f = refl

-- the first byte that fails stands where the run ends
position_ends : (f : ℕ → Bool) (l : Bytes) → length (take_while f l) ≡ position_or_len (λ b. not (f b)) l
position_ends f = is_position_or_len (λ l. length (take_while f l)) (λ b. not (f b)) (none_ends f) (step_ends f)

-- as far as the first byte that fails, or to the end
run_found : (f : ℕ → Bool) (l : Bytes) {n : ℕ} {o : Option ℕ} → o ≡ cond (ltb (position_or_len (λ b. not (f b)) l) (length l)) (Some (position_or_len (λ b. not (f b)) l)) None
    → n ≡ unwrap_or o (length l) → n ≡ length (take_while f l)
run_found f l {n = n} {o = o} p q = go (ltb (length (take_while f l)) (length l)) refl (p ∙ rw (← position_ends f l))
  where
    go : (u : Bool) → ltb (length (take_while f l)) (length l) ≡ u → o ≡ cond u (Some (length (take_while f l))) None → n ≡ length (take_while f l)
    go true e h = q ∙ rw h
    go false e h = let z : length l ≡ length (take_while f l) = omega (arith, while_length f l, ltb-false _ _ e) in (q ∙ rw h) ∙ z

module _ (f : ℕ → Bool) (s : Bytes) (from : ℕ) where
  pub run_past : length s ≤ from → from ≡ from + length (take_while f (drop from s))
  run_past h = scan_end f s from h refl

  pub run_rest : take (length s - from) (drop from s) ≡ drop from s
  run_rest = take_all (length s - from) (drop from s) (simp length-drop (omega arith))

  pub run_ends : {l : Bytes} {n : ℕ} {o : Option ℕ} → l ≡ drop from s → o ≡ cond (ltb (position_or_len (λ b. not (f b)) l) (length l)) (Some (position_or_len (λ b. not (f b)) l)) None
      → n ≡ unwrap_or o (length l) → from + n ≡ from + length (take_while f (drop from s))
  run_ends e p q = rw (← e, run_found f _ p q)
