-- The bytes of a word.
use Rattle.std.specs.Prelude.{if◌then◌else◌, Some, None}
use mathlib.Core.Path.{◌≡◌, refl, sym, ap, ◌∙◌}
use mathlib.Core.Bool.{Bool, true, false, ◌&&◌}
use mathlib.Core.List.{[], ◌∷◌}
use Prim.Native.Nat.{ℕ, suc, ◌+◌, ◌-◌, ◌^◌, ◌≤◌, ◌<◌}
use native.Mathlib.Nat.{add-zero}
use native.Mathlib.Omega.{arith}
use mir.Syntax.{w8, w64}
use mir.Val.{Fits}
use borrow.Author.Tests.{eqb-true, eqb-false}
use lib.Dec.{eqb}
use lib.ListN.{length, get_or, take, drop, length-drop}
use lib.Seq.{drop-drop, take-nil}
use Rattle.ascii.specs.Ascii.{Bytes, begins_with}
use Rattle.json_text.specs.Reader.{word}
use Rattle.json_text.specs.code.Places.{Peeked, read_at, place_of}
use Rattle.json_text.proofs.Steps.{past_text, at_front, on, then_bad, one_yes, one_no, give_at, is_one, not_one}

-- each is a byte
abbrev pub Small : Bytes → Type 0
Small w = (k : ℕ) → Fits w8 (get_or w k 0)

spelled : (w s : Bytes) (i : ℕ) → Small w → place_of (read_at (word w) s i) ≡ (if begins_with w (drop i s) then Some (i + length w) else None)
unfolding word begins_with
spelled [] s i m = unfold place_of in (rw (give_at, add-zero))
spelled (v ∷ w) s i m = go (drop i s) refl (spelled w s (i + 1) (λ k. m (suc k)))
  where
    go : (l : Bytes) → drop i s ≡ l → place_of (read_at (word w) s (i + 1)) ≡ (if begins_with w (drop (i + 1) s) then Some (i + 1 + length w) else None)
        → place_of (read_at (word (v ∷ w)) s i) ≡ (if begins_with (v ∷ w) l then Some (i + length (v ∷ w)) else None)
    go [] e h =
        let g : Peeked s i None = past_text e in
        unfold word place_of begins_with in rw (then_bad _ _ _ _ (one_no g _ (not_one 256 v (λ z. omega (arith, (m 0).fits)))))
    go (c ∷ l) e h = same (eqb v c) refl
      where
        g : Peeked s i (Some c)
        g = at_front e

        next : drop (i + 1) s ≡ l
        next = sym (drop-drop 1 i s) ∙ ap (drop 1) e

        same : (u : Bool) → eqb v c ≡ u → place_of (read_at (word (v ∷ w)) s i) ≡ (if begins_with (v ∷ w) (c ∷ l) then Some (i + length (v ∷ w)) else None)
        same true f =
            let z : c ≡ v = sym (eqb-true v c f) in
            let n : i + 1 + length w ≡ i + suc (length w) = omega arith in
            unfold word begins_with in (rw (on _ _ _ _ (one_yes g _ (is_one c v z)), f, ← next, ← n) h)
        same false f = unfold word place_of begins_with in (rw (then_bad _ _ _ _ (one_no g _ (not_one c v (λ z. eqb-false v c f (sym z)))), f))

begins_long : (p t : Bytes) → begins_with p t ≡ true → length p ≤ length t
unfolding begins_with
begins_long [] t e = omega arith
begins_long (b ∷ p) [] e = let z : ◌≡◌ {A = ℕ} 0 1 = cc in absurd (omega arith)
begins_long (b ∷ p) (c ∷ t) e = go (eqb b c) e (begins_long p t)
  where
    go : (u : Bool) → u && begins_with p t ≡ true → (begins_with p t ≡ true → length p ≤ length t) → suc (length p) ≤ suc (length t)
    go true e h = let z : length p ≤ length t = h e in omega arith
    go false e h = let z : ◌≡◌ {A = ℕ} 0 1 = cc in absurd (omega arith)

module _ (s w : Bytes) (i : ℕ) {p : Bytes} {q : Bool} (h : p ≡ take (length s - i) (drop i s)) (e : q ≡ begins_with w p) where
  rest : p ≡ drop i s
  rest = h ∙ all (length s - i) (drop i s) (length-drop i s)
    where
      all : (n : ℕ) (l : Bytes) → length l ≡ n → take n l ≡ l
      all n [] f = take-nil n
      all n (b ∷ l) f = rw (sym f) (ap (λ (x : Bytes). b ∷ x) (all (length l) l refl))

  begins : begins_with w (drop i s) ≡ q
  begins = rw (← rest) (sym e)

  pub word_fits : q ≡ true → Fits w64 i → length s < 2 ^ 64 → Fits w64 (i + length w)
  word_fits f x y = record { fits = omega (arith, x.fits, begins_long w (drop i s) (begins ∙ f), length-drop i s) }

  pub word_is : Small w → q ≡ true → Some (i + length w) ≡ place_of (read_at (word w) s i)
  word_is m f = sym (spelled w s i m ∙ rw (begins, f))

  pub word_not : Small w → q ≡ false → None ≡ place_of (read_at (word w) s i)
  word_not m f = sym (spelled w s i m ∙ rw (begins, f))
