-- What the library's methods answer, in the definitions' words. Assumes nothing.
use Rattle.std.specs.Prelude.{◌↔◌, IsTrue, nat_eq}
use mathlib.Core.Path.{◌≡◌, refl, sym, ap₂, ◌∙◌}
use mathlib.Core.List.{[], ◌∷◌, map}
use mathlib.Core.Bool.{Bool, true, false}
use Prim.Native.Nat.{ℕ}
use native.Mathlib.Omega.{arith}
use lib.Dec.{eqb}
use borrow.Author.Tests.{eq-eqb}
use Rattle.std.specs.Char.{to_ascii_lowercase, is_ascii_digit, eq_ignore_ascii_case}
use Rattle.std.specs.List.{starts_with}
use Rattle.std.specs.Cmp.Lexicographic.{pointwise}
use Rattle.ascii.specs.Ascii.{Bytes, is_digit, is_upper, lower_byte, lower, same, same_no_case, begins_with}
use Rattle.ascii.proofs.Compare.{same_eq}

pub lower_is : (b : ℕ) → to_ascii_lowercase b ≡ lower_byte b
unfolding lower_byte is_upper
lower_is b = grind arith

pub digit_is_told : (b : ℕ) → is_ascii_digit b ≡ is_digit b
unfolding is_digit
digit_is_told b = grind arith

pub same_told : (s t : Bytes) → pointwise nat_eq s t ≡ same s t
unfolding same
same_told [] [] = refl
same_told [] (c ∷ t) = refl
same_told (b ∷ s) [] = refl
same_told (b ∷ s) (c ∷ t) = rw (same_told s t)

pub begins_told : (p s : Bytes) → starts_with nat_eq s p ≡ begins_with p s
unfolding begins_with
begins_told [] s = refl
begins_told (b ∷ p) [] = refl
begins_told (b ∷ p) (c ∷ s) = rw (← begins_told p s)

pub alike_told : (b c : ℕ) → eq_ignore_ascii_case b c ≡ eqb (lower_byte b) (lower_byte c)
alike_told b c = ap₂ nat_eq (lower_is b) (lower_is c)

lower_told : (s : Bytes) → map to_ascii_lowercase s ≡ lower s
unfolding lower
lower_told [] = refl
lower_told (b ∷ s) = ap₂ ◌∷◌ (lower_is b) (lower_told s)

same_refl : (s : Bytes) → same s s ≡ true
unfolding same
same_refl [] = refl
same_refl (b ∷ s) = rw (eq-eqb b b refl, same_refl s)

pub no_case_told : (s t : Bytes) {r : Bool} → IsTrue r ↔ (map to_ascii_lowercase s ≡ map to_ascii_lowercase t) → r ≡ same_no_case s t
unfolding same_no_case
no_case_told s t {r = r} h = go r (same (lower s) (lower t)) refl (rw (lower_told s, lower_told t) at h)
  where
    go : (q u : Bool) → same (lower s) (lower t) ≡ u → IsTrue q ↔ (lower s ≡ lower t) → q ≡ u
    go true true e k = refl
    go false false e k = refl
    go true false e k = let z : false ≡ true = sym e ∙ (rw (← k.0 refl) (same_refl (lower s))) in sym z
    go false true e k = k.1 (same_eq (lower s) (lower t) e)
