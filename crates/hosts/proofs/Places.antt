-- How many labels a host has, where they begin, and whether it ends in a text. Assumes nothing.
use Rattle.std.specs.Prelude.{cond, if◌then◌else◌, count_by}
use Rattle.std.specs.List.{list_all}
use Rattle.std.proofs.lemmas.List.Sums.{sum_by-cons}
use mathlib.Core.Path.{◌≡◌, refl, sym, ap, ◌∙◌}
use mathlib.Core.Bool.{Bool, true, false, and-false, and-true, or-true}
use mathlib.Core.List.{List, [], ◌∷◌, append-nil}
use Prim.Native.Nat.{ℕ, zero, suc, ◌+◌, ◌-◌, ◌≤◌, ◌<◌}
use native.Mathlib.Numerals.{add-one}
use native.Mathlib.Omega.{arith}
use lib.ListN.{length, get_or, take, drop, drop_of_length-le, length-drop}
use lib.Seq.{drop-cons, drop-nil, take_all}
use lib.Dec.{eqb}
use borrow.Author.Tests.{eq-eqb, ne_eqb, lt-leb, le-leb}
use Rattle.ascii.specs.Ascii.{Bytes, all, last_of, join_head, split_at, prefixed, join_with, is_digit, same_no_case}
use Rattle.ascii.proofs.Split.{split_parts, split_here, split_other, head_length, head_drop, join_split}
use Rattle.hosts.specs.Host.{labels, is_address}
use Rattle.hosts.specs.code.Place.{Stands, is_boundary, ends_at_label}

-- ---- how many labels

dots : (s : Bytes) → length (split_at 46 s) ≡ count_by (λ b. eqb b 46) s + 1
unfolding split_at
dots [] = refl
dots (b ∷ s) = go (eqb b 46) (dots s) ∙ ap (λ n. n + 1) (sym (sum_by-cons (λ x. cond (eqb x 46) 1 0) b s))
  where
    go : (u : Bool) → length (split_at 46 s) ≡ count_by (λ x. eqb x 46) s + 1 → length (if u then [] ∷ split_at 46 s else join_head b (split_at 46 s)) ≡ cond u 1 0 + count_by (λ x. eqb x 46) s + 1
    go true ih = omega (arith, ih)
    go false ih = head_length b (split_at 46 s) (split_parts 46 s) ∙ ih ∙ omega arith

pub count_is : (h : Bytes) {n : ℕ} → n ≡ count_by (λ b. eqb b 46) h → n + 1 ≡ length (labels h)
unfolding labels
count_is h e = omega (arith, e, dots h)

-- ---- where labels begin

pub record Skips (h : Bytes) (ls : List Bytes) (left i : ℕ) : Type 0 where
  pub inside : i ≤ length h
  pub is : join_with 46 (drop left (split_at 46 (drop i h))) ≡ join_with 46 ls

pub skip_starts : (h : Bytes) (n : ℕ) → Skips h (drop n (labels h)) n 0
unfolding labels
skip_starts h n = record { inside = omega arith; is = refl }

join_none : (left : ℕ) → join_with 46 (drop left (split_at 46 [])) ≡ []
unfolding split_at join_with prefixed
join_none zero = refl
join_none (suc n) = ap (join_with 46) (drop-nil n)

skip_one : (left : ℕ) (l : List Bytes) → (left ≡ 0 → ⊥) → drop left ([] ∷ l) ≡ drop (left - 1) l
skip_one zero l n = absurd (n refl)
skip_one (suc left) l n = let e : suc left - 1 ≡ left = omega arith in rw e

skip_none : (left b : ℕ) (s : Bytes) → (left ≡ 0 → ⊥) → drop left (join_head b (split_at 46 s)) ≡ drop left (split_at 46 s)
skip_none zero b s n = absurd (n refl)
skip_none (suc left) b s n = head_drop b left (split_at 46 s) (split_parts 46 s)

module _ {h : Bytes} {ls : List Bytes} {left i : ℕ} (S : Skips h ls left i) where
  pub skip_here : left ≡ 0 → Stands ls h i
  skip_here e = record { inside = S.inside; is = sym (join_split 46 (drop i h)) ∙ (rw e at S.is) }

  pub skip_ends : length h ≤ i → Stands ls h i
  skip_ends l = record { inside = S.inside; is = drop_of_length-le h l ∙ sym (rw (drop_of_length-le h l) (join_none left)) ∙ S.is }

  module _ (l : i < length h) (n : left ≡ 0 → ⊥) where
    pub skip_dot : get_or h i 0 ≡ 46 → Skips h ls (left - 1) (i + 1)
    skip_dot e = record {
      inside = omega arith;
      is = sym (rw (add-one, drop-cons h i 0 l, e, split_here, skip_one left _ n)) ∙ S.is;
    }

    pub skip_other : (get_or h i 0 ≡ 46 → ⊥) → Skips h ls left (i + 1)
    skip_other e = record {
      inside = omega arith;
      is = sym (rw (add-one, drop-cons h i 0 l, split_other 46 _ _ e, skip_none left _ _ n)) ∙ S.is;
    }

pub last_all : (h : Bytes) (n : ℕ) {k : ℕ} → k ≡ length (labels h) → k < n → Stands (last_of n (labels h)) h 0
unfolding labels last_of
last_all h n {k} e l =
    let z : length (split_at 46 h) - n ≡ 0 = omega arith in
    record { inside = omega arith; is = rw z (sym (join_split 46 h)) }

pub last_some : (h : Bytes) (n : ℕ) {k r : ℕ} → k ≡ length (labels h) → Stands (drop (k - n) (labels h)) h r → Stands (last_of n (labels h)) h r
unfolding last_of
last_some h n e S = rw (← e) S

-- ---- the last label is all digits

all_is : (p : ℕ → Bool) (s : Bytes) → list_all p s ≡ all p s
unfolding all
all_is p [] = refl
all_is p (b ∷ s) = rw (all_is p s)

at_most_one : (p : ℕ → Bool) (ls : List Bytes) → length ls ≤ 1 → all (all p) ls ≡ all p (join_with 46 ls)
unfolding all join_with prefixed
at_most_one p [] h = refl
at_most_one p (l ∷ []) h = rw (and-true, append-nil)
at_most_one p (l ∷ m ∷ ls) h = absurd (omega arith)

pub rest_whole : (s : Bytes) (k : ℕ) → take (length s - k) (drop k s) ≡ drop k s
rest_whole s k = take_all (length s - k) (drop k s) (omega (arith, length-drop k s))

pub address_is : (h : Bytes) {k : ℕ} {r : Bool} → Stands (last_of 1 (labels h)) h k → r ≡ list_all is_digit (take (length h - k) (drop k h)) → r ≡ is_address (labels h)
unfolding is_address last_of
address_is h {k} S e =
    let last = drop (length (labels h) - 1) (labels h) in
    e ∙ rw (rest_whole h k, S.is) (all_is is_digit (join_with 46 last) ∙ sym (at_most_one is_digit last (omega (arith, length-drop (length (labels h) - 1) (labels h)))))

-- ---- an end of a host

module _ (h : Bytes) (k : ℕ) where
  pub boundary_start : k ≡ 0 → true ≡ is_boundary k h
  unfolding is_boundary
  boundary_start e = rw (eq-eqb _ _ e)

  pub boundary_dot : get_or h (k - 1) 0 ≡ 46 → true ≡ is_boundary k h
  unfolding is_boundary
  boundary_dot e = rw (eq-eqb _ _ e, or-true)

  pub boundary_none : (k ≡ 0 → ⊥) → (get_or h (k - 1) 0 ≡ 46 → ⊥) → false ≡ is_boundary k h
  unfolding is_boundary
  boundary_none m n = rw (ne_eqb _ _ m, ne_eqb _ _ n)

module _ (h w : Bytes) where
  pub ends_long : length h < length w → false ≡ ends_at_label w h
  unfolding ends_at_label
  ends_long l = rw (lt-leb (length w) (length h) l)

  module _ {b : Bool} (l : length w ≤ length h) (t : b ≡ is_boundary (length h - length w) h) where
    pub ends_not : b ≡ false → false ≡ ends_at_label w h
    unfolding ends_at_label
    ends_not v = rw (← t, v, and-false)

    pub ends_rest : {r : Bool} → b ≡ true → r ≡ same_no_case (take (length h - (length h - length w)) (drop (length h - length w) h)) w → r ≡ ends_at_label w h
    unfolding ends_at_label
    ends_rest v e = e ∙ rw (rest_whole h (length h - length w), le-leb (length w) (length h) l, ← t, v)
