-- An end of a host in bytes that begins at a label is its last labels. Assumes nothing.
use Rattle.std.specs.Prelude.{if◌then◌else◌}
use mathlib.Core.Path.{◌≡◌, refl, sym, ap, ◌∙◌}
use mathlib.Core.Bool.{Bool, true, false, ◌&&◌, and-eq-true_iff}
use mathlib.Core.List.{List, [], ◌∷◌, ◌++◌, map}
use Prim.Native.Nat.{ℕ, zero, suc, ◌+◌, ◌-◌, ◌≤◌, ◌<◌}
use native.Mathlib.Omega.{arith}
use lib.ListN.{length, get_or, take, drop, length-drop, length-append, length-map}
use lib.Seq.{drop_at, split_at as split_at_nth}
use lib.Dec.{eqb, leb}
use borrow.Author.Tests.{eq-eqb, ne_eqb, eqb-true, le-leb}
use Rattle.ascii.specs.Ascii.{Bytes, last_of, join_head, split_at, join_with, lower, same, same_no_case}
use Rattle.ascii.proofs.Compare.{length_lower, same_eq}
use Rattle.ascii.proofs.Split.{Parts, split_parts, split_some, head_drop, head_length, join_split}
use Rattle.hosts.specs.Host.{labels}
use Rattle.hosts.specs.code.Place.{is_boundary, ends_at_label}
use Rattle.hosts.proofs.Case.{labels_lower, join_lower}

-- ---- tests

pub both_ways : (a b : Bool) → (a ≡ true → b ≡ true) → (b ≡ true → a ≡ true) → a ≡ b
both_ways true true f g = refl
both_ways true false f g = sym (f refl)
both_ways false true f g = g refl
both_ways false false f g = refl

pub true_false : {A : Type 0} → true ≡ false → A
true_false e = let z : ◌≡◌ {A = ℕ} 0 1 = cc in absurd (omega arith)

pub same_refl : (s t : Bytes) → s ≡ t → same s t ≡ true
unfolding same
same_refl s [] e = rw e
same_refl s (c ∷ t) e = rw (e, eq-eqb c c refl, same_refl t t refl)

-- ---- places where labels begin

head_append : (b : ℕ) (ls ms : List Bytes) → Parts ls → join_head b (ls ++ ms) ≡ join_head b ls ++ ms
unfolding join_head
head_append b ls ms P = rw P.is

pub split_append : (d : ℕ) (p t : Bytes) → split_at d (p ++ d ∷ t) ≡ split_at d p ++ split_at d t
unfolding split_at
split_append d [] t = rw (eq-eqb d d refl)
split_append d (b ∷ p) t = go (eqb b d) (split_append d p t)
  where
    go : (u : Bool) → split_at d (p ++ d ∷ t) ≡ split_at d p ++ split_at d t
        → (if u then [] ∷ split_at d (p ++ d ∷ t) else join_head b (split_at d (p ++ d ∷ t))) ≡ (if u then [] ∷ split_at d p else join_head b (split_at d p)) ++ split_at d t
    go true ih = rw ih
    go false ih = rw ih (head_append b (split_at d p) (split_at d t) (split_parts d p))

boundary_suc : (j : ℕ) (h : Bytes) → is_boundary (suc j) h ≡ eqb (get_or h j 0) 46
unfolding is_boundary
boundary_suc j h = let e : suc j - 1 ≡ j = omega arith in rw (ne_eqb (suc j) 0 (λ z. omega arith), e)

-- the labels before a place
pub record Cut (h : Bytes) (k : ℕ) : Type 0 where
  pub before : List Bytes
  pub is : split_at 46 h ≡ before ++ split_at 46 (drop k h)

pub cut_at : (h : Bytes) (k : ℕ) → k ≤ length h → is_boundary k h ≡ true → Cut h k
cut_at h zero l e = record { before = []; is = refl }
cut_at h (suc j) l e =
    let d : get_or h j 0 ≡ 46 = eqb-true (get_or h j 0) 46 (sym (boundary_suc j h) ∙ e) in
    record { before = split_at 46 (take j h); is = ap (split_at 46) (split_at_nth h j 0 l) ∙ rw d (split_append 46 (take j h) (drop (suc j) h)) }

-- the place of a label
pub record Begin (h : Bytes) (m : ℕ) : Type 0 where
  pub place : ℕ
  pub inside : place ≤ length h
  pub boundary : is_boundary place h ≡ true
  pub is : drop m (split_at 46 h) ≡ split_at 46 (drop place h)

boundary_on : (b k : ℕ) (s : Bytes) → is_boundary k s ≡ true → (k ≡ 0 → b ≡ 46) → is_boundary (suc k) (b ∷ s) ≡ true
boundary_on b zero s e n = boundary_suc 0 (b ∷ s) ∙ eq-eqb b 46 (n refl)
boundary_on b (suc j) s e n = boundary_suc (suc j) (b ∷ s) ∙ sym (boundary_suc j s) ∙ e

boundary_zero : (h : Bytes) → is_boundary 0 h ≡ true
unfolding is_boundary
boundary_zero h = refl

pub begin_at : (h : Bytes) (m : ℕ) → m < length (split_at 46 h) → Begin h m
unfolding split_at
begin_at [] zero l = record { place = 0; inside = omega arith; boundary = boundary_zero []; is = refl }
begin_at [] (suc m) l = absurd (omega arith)
begin_at (b ∷ s) zero l = record { place = 0; inside = omega arith; boundary = boundary_zero (b ∷ s); is = refl }
begin_at (b ∷ s) (suc m) l = go (eqb b 46) refl l (λ n. begin_at s n)
  where
    go : (u : Bool) → eqb b 46 ≡ u → suc m < length (if u then [] ∷ split_at 46 s else join_head b (split_at 46 s))
        → ((n : ℕ) → n < length (split_at 46 s) → Begin s n) → Begin (b ∷ s) (suc m)
    go true e l ih =
        let B = ih m (omega arith) in
        record { place = suc B.place; inside = omega (arith, B.inside); boundary = boundary_on b B.place s B.boundary (λ z. eqb-true b 46 e); is = rw e B.is }
    go false e l ih =
        let f : length (join_head b (split_at 46 s)) ≡ length (split_at 46 s) = head_length b (split_at 46 s) (split_parts 46 s) in
        let B = ih (suc m) (omega arith) in
        let g : drop (suc m) (join_head b (split_at 46 s)) ≡ drop (suc m) (split_at 46 s) = head_drop b m (split_at 46 s) (split_parts 46 s) in
        record {
          place = suc B.place;
          inside = omega (arith, B.inside);
          boundary = boundary_on b B.place s B.boundary (λ z. absurd (later B.place z B.is));
          is = rw e (g ∙ B.is);
        }
      where
        later : (k : ℕ) → k ≡ 0 → drop (suc m) (split_at 46 s) ≡ split_at 46 (drop k s) → ⊥
        later k z f =
            let a : length (drop (suc m) (split_at 46 s)) ≡ length (split_at 46 s) = ap length (rw z at f) in
            omega (arith, length-drop (suc m) (split_at 46 s), split_some 46 s)

-- the same of labels
pub cut_labels : (h : Bytes) (k : ℕ) (C : Cut h k) → labels h ≡ C.before ++ labels (drop k h)
unfolding labels
cut_labels h k C = C.is

pub begin_labels : (h : Bytes) (m : ℕ) → m < length (labels h) → Begin h m
unfolding labels
begin_labels h m l = begin_at h m l

pub begin_is : (h : Bytes) (m : ℕ) (B : Begin h m) → drop m (labels h) ≡ labels (drop B.place h)
unfolding labels
begin_is h m B = B.is

pub labels_some : (h : Bytes) → 1 ≤ length (labels h)
unfolding labels
labels_some h = split_some 46 h

split_few : (d : ℕ) (s : Bytes) → length (split_at d s) ≤ length s + 1
unfolding split_at
split_few d [] = omega arith
split_few d (b ∷ s) = go (eqb b d) (split_few d s)
  where
    go : (u : Bool) → length (split_at d s) ≤ length s + 1 → length (if u then [] ∷ split_at d s else join_head b (split_at d s)) ≤ suc (length s) + 1
    go true h = omega arith
    go false h = omega (arith, head_length b (split_at d s) (split_parts d s))

pub labels_few : (h : Bytes) → length (labels h) ≤ length h + 1
unfolding labels
labels_few h = split_few 46 h

-- ---- the labels in lower case

pub lower_names : (v t : Bytes) → map lower (labels v) ≡ map lower (labels t) → lower v ≡ lower t
unfolding labels
lower_names v t e = ap lower (sym (join_split 46 v)) ∙ sym (join_lower (split_at 46 v)) ∙ ap (join_with 46) e ∙ join_lower (split_at 46 t) ∙ ap lower (join_split 46 t)

pub names_lower : (v t : Bytes) → lower v ≡ lower t → map lower (labels v) ≡ map lower (labels t)
names_lower v t e = sym (labels_lower v) ∙ ap labels e ∙ labels_lower t

pub last_append : (n : ℕ) (ls ms : List Bytes) → length ms ≡ n → last_of n (ls ++ ms) ≡ ms
unfolding last_of
last_append n ls ms e =
    let f : length (ls ++ ms) - n ≡ length ls = omega (arith, length-append ls ms) in
    rw f (drop_at ls ms (length ls) refl)

-- ---- an end of the host in bytes is its last labels

abbrev pub Alike : List Bytes → List Bytes → Type 0
Alike ls ms = map lower ls ≡ map lower ms

-- the end of h that is alike to v
record Same (v h : Bytes) : Type 0 where
  pub boundary : is_boundary (length h - length v) h ≡ true
  pub names : Alike (labels v) (labels (drop (length h - length v) h))
  pub count : length (labels (drop (length h - length v) h)) ≡ length (labels v)

alike : (v h : Bytes) → ends_at_label v h ≡ true → Same v h
unfolding ends_at_label same_no_case
alike v h e =
    let p = (and-eq-true_iff (leb (length v) (length h) && is_boundary (length h - length v) h) (same (lower (drop (length h - length v) h)) (lower v))).0 e in
    let q = (and-eq-true_iff (leb (length v) (length h)) (is_boundary (length h - length v) h)).0 p.0 in
    let t = drop (length h - length v) h in
    let g : Alike (labels v) (labels t) = names_lower v t (sym (same_eq (lower t) (lower v) p.1)) in
    record {
      boundary = q.1;
      names = g;
      count = sym (length-map (labels t) lower) ∙ ap length (sym g) ∙ length-map (labels v) lower;
    }

module _ (v h : Bytes) where
  pub ends_alike : ends_at_label v h ≡ true → (length (labels v) ≤ length (labels h)) × Alike (labels v) (last_of (length (labels v)) (labels h))
  ends_alike e =
      let A = alike v h e in
      let t = drop (length h - length v) h in
      let C = cut_at h (length h - length v) (omega arith) A.boundary in
      let c : labels h ≡ C.before ++ labels t = cut_labels h (length h - length v) C in
      (rw c (omega (arith, A.count, length-append C.before (labels t))), rw (c, last_append (length (labels v)) C.before (labels t) A.count) A.names)

  pub alike_ends : length (labels v) ≤ length (labels h) → Alike (labels v) (last_of (length (labels v)) (labels h)) → ends_at_label v h ≡ true
  unfolding ends_at_label same_no_case last_of
  alike_ends l e =
      let s = labels_some v in
      let B = begin_labels h (length (labels h) - length (labels v)) (omega arith) in
      let t = drop B.place h in
      let b : drop (length (labels h) - length (labels v)) (labels h) ≡ labels t = begin_is h (length (labels h) - length (labels v)) B in
      let f : lower v ≡ lower t = lower_names v t (rw b at e) in
      let n : length v ≡ length h - B.place = sym (length_lower v) ∙ ap length f ∙ length_lower t ∙ length-drop B.place h in
      let k : length h - length v ≡ B.place = omega (arith, B.inside) in
      rw (k, B.boundary, le-leb (length v) (length h) (omega arith)) (same_refl (lower t) (lower v) (sym f))

-- ---- a longer host has more labels

more_labels : (h : Bytes) (k : ℕ) → 1 ≤ k → k ≤ length h → is_boundary k h ≡ true → length (labels (drop k h)) < length (labels h)
unfolding labels
more_labels h zero m l e = absurd (omega arith)
more_labels h (suc j) m l e =
    let d : get_or h j 0 ≡ 46 = eqb-true (get_or h j 0) 46 (sym (boundary_suc j h) ∙ e) in
    let s : split_at 46 h ≡ split_at 46 (take j h) ++ split_at 46 (drop (suc j) h) = ap (split_at 46) (split_at_nth h j 0 l) ∙ rw d (split_append 46 (take j h) (drop (suc j) h)) in
    omega (arith, ap length s, length-append (split_at 46 (take j h)) (split_at 46 (drop (suc j) h)), split_some 46 (take j h))

module _ (v h : Bytes) (e : ends_at_label v h ≡ true) where
  pub ends_fewer : length v < length h → length (labels v) < length (labels h)
  ends_fewer l = omega (arith, more_labels h (length h - length v) (omega arith) (omega arith) (alike v h e).boundary, (alike v h e).count)

  pub ends_whole : length h ≤ length v → length (labels h) ≤ length (labels v)
  ends_whole l =
      let z : length h - length v ≡ 0 = omega arith in
      let n : length (labels h) ≡ length (labels v) = rw z at (alike v h e).count in
      omega (arith, n)
