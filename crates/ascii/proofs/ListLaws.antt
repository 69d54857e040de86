-- Tests over whole lists, and parts of them. Assumes nothing.
use Rattle.std.specs.Prelude.{if◌then◌else◌}
use mathlib.Core.Path.{◌≡◌, refl, sym, ◌∙◌}
use mathlib.Core.List.{List, [], ◌∷◌, ◌++◌, map}
use mathlib.Core.Bool.{Bool, true, false, ◌&&◌, and-eq-true_iff}
use Prim.Native.Nat.{ℕ, ◌≤◌}
use native.Mathlib.Omega.{arith}
use lib.ListN.{length, take, drop, take-append-drop}
use Rattle.ascii.specs.Ascii.{Bytes, all, is_empty, filter_by}

module _ {A : Type 0} (p : A → Bool) where
  pub all_both : (x y : List A) → all p (x ++ y) ≡ (all p x && all p y)
  unfolding all
  all_both [] y = refl
  all_both (a ∷ x) y = go (p a) (all_both x y)
    where
      go : (u : Bool) → all p (x ++ y) ≡ (all p x && all p y) → (u && all p (x ++ y)) ≡ ((u && all p x) && all p y)
      go true ih = ih
      go false ih = refl

  pub all_append : (x y : List A) → all p x ≡ true → all p y ≡ true → all p (x ++ y) ≡ true
  all_append x y e h = rw (all_both x y, e, h)

  -- what passes a test passes a weaker one
  pub all_weaker : (q : A → Bool) → ((x : A) → p x ≡ true → q x ≡ true) → (l : List A) → all p l ≡ true → all q l ≡ true
  unfolding all
  all_weaker q h [] e = refl
  all_weaker q h (x ∷ l) e = let k = (and-eq-true_iff (p x) (all p l)).0 e in rw (h x k.0, all_weaker q h l k.1)

  pub all_drop : (n : ℕ) (l : List A) → all p l ≡ true → all p (drop n l) ≡ true
  all_drop n l e =
      let h : (all p (take n l) && all p (drop n l)) ≡ true = sym (rw take-append-drop at (all_both (take n l) (drop n l))) ∙ e in
      ((and-eq-true_iff (all p (take n l)) (all p (drop n l))).0 h).1

  -- what passes a test passes it
  pub filter_all : (l : List A) → all p (filter_by p l) ≡ true
  unfolding all filter_by
  filter_all [] = refl
  filter_all (x ∷ l) = go (p x) refl (filter_all l)
    where
      go : (u : Bool) → p x ≡ u → all p (filter_by p l) ≡ true → all p (if u then x ∷ filter_by p l else filter_by p l) ≡ true
      go true h r = rw (h, r)
      go false h r = r

  -- where all pass, all are left
  pub filter_id : (l : List A) → all p l ≡ true → filter_by p l ≡ l
  unfolding all filter_by
  filter_id [] h = refl
  filter_id (x ∷ l) h = let q = (and-eq-true_iff (p x) (all p l)).0 h in rw (q.0, filter_id l q.1)

  -- a test of what is made of each element
  pub all_mapped : {B : Type 0} (q : B → Bool) (f : A → B) → ((x : A) → p x ≡ true → q (f x) ≡ true) → (l : List A) → all p l ≡ true → all q (map f l) ≡ true
  unfolding all
  all_mapped q f h [] e = refl
  all_mapped q f h (x ∷ l) e = let k = (and-eq-true_iff (p x) (all p l)).0 e in rw (h x k.0, all_mapped q f h l k.1)

-- ---- empty or not

pub empty_is : (s : Bytes) → length s ≡ 0 → is_empty s ≡ true
empty_is [] e = refl
empty_is (b ∷ s) e = absurd (omega arith)

pub empty_not : (s : Bytes) → (length s ≡ 0 → ⊥) → is_empty s ≡ false
empty_not [] n = absurd (n refl)
empty_not (b ∷ s) n = refl

pub filled : (s : Bytes) → 1 ≤ length s → is_empty s ≡ false
filled s h = empty_not s (λ e. omega arith)
