-- The steps of a reader, at places of a text.
use Rattle.std.specs.Prelude.{if◌then◌else◌, slice_get, Option, Some, None}
use mir.Syntax.{w64}
use mir.Val.{Fits}
use mathlib.Core.Path.{◌≡◌, refl, ap, sym, ◌∙◌}
use mathlib.Core.Bool.{Bool, true, false, not, ◌&&◌, ◌||◌, and-eq-true_iff}
use mathlib.Core.Logic.{inl, inr}
use mathlib.Core.List.{[], ◌∷◌}
use Prim.Native.Nat.{ℕ, zero, suc, ◌+◌, ◌^◌, ◌≤◌, ◌<◌, suc-le-suc}
use native.Mathlib.Nat.{lt_irrefl, add-zero}
use native.Mathlib.Omega.{arith}
use borrow.Author.Tests.{eq-eqb, ne_eqb, le-leb, lt-leb, leb-true, eqb-true}
use types.Run.{OneOf}
use lib.Dec.{eqb, leb}
use Rattle.std.specs.Option.{option_eq}
use Rattle.std.specs.ControlFlow.{continue_value}
use Rattle.std.specs.declared.ops.ControlFlow.{ControlFlow}
use Rattle.std.specs.declared.ops.ControlFlow.TheVariants.{Continue, Break}
use lib.ListN.{length, drop}
use lib.Seq.{drop-drop}
use Rattle.ascii.specs.Ascii.{Bytes, between, among}
use Rattle.json_text.specs.Reader.{Read, got, bad, Reader, more, behind, ◌>>=◌, give, fail, peek, satisfy, if_next◌then◌else◌, lead◌to◌then◌else◌, either_read, ◌or◌, mapped, ◌giving◌, as_written, verbatim, counted}
use Rattle.json_text.specs.code.Places.{Peeked, read_at, place_of, point_of}

-- ---- bytes

pub peek_in : (s : Bytes) (i : ℕ) → peek (drop i s) < 256 → i < length s
unfolding peek
peek_in [] zero h = absurd (lt_irrefl 256 h)
peek_in [] (suc i) h = absurd (lt_irrefl 256 h)
peek_in (x ∷ s) zero h = omega arith
peek_in (x ∷ s) (suc i) h = suc-le-suc (peek_in s i h)

-- its number; 256 where there is none
abbrev pub wide : Option ℕ → ℕ
wide None = 256
wide (Some b) = b

pub seen : {s : Bytes} {i : ℕ} {q : Option ℕ} → Peeked s i q → wide q ≡ peek (drop i s)
seen {s} {i} g = ap wide g.is ∙ go s i
  where
    go : (s : Bytes) (i : ℕ) → wide (slice_get s i) ≡ peek (drop i s)
    go [] zero = unfold peek in refl
    go [] (suc i) = unfold peek in refl
    go (x ∷ s) zero = unfold peek in refl
    go (x ∷ s) (suc i) = go s i

pub here : {s : Bytes} {i b : ℕ} {q : Option ℕ} → Peeked s i q → q ≡ Some b → Peeked s i (Some b)
here g e = record { is = sym e ∙ g.is }

pub gone : {s : Bytes} {i : ℕ} {q : Option ℕ} → Peeked s i q → q ≡ None → Peeked s i None
gone g e = record { is = sym e ∙ g.is }

pub peeks : (s : Bytes) (i : ℕ) → Peeked s i (slice_get s i)
peeks s i = record { is = refl }

pub past_text : {s : Bytes} {i : ℕ} → drop i s ≡ [] → Peeked s i None
past_text {s} {i} e = record { is = go s i e }
  where
    go : (s : Bytes) (i : ℕ) → drop i s ≡ [] → None ≡ slice_get s i
    go [] i e = refl
    go (x ∷ s) zero e = let z : ◌≡◌ {A = ℕ} 0 1 = cc in absurd (omega arith)
    go (x ∷ s) (suc i) e = go s i e

pub at_front : {s : Bytes} {i b : ℕ} {l : Bytes} → drop i s ≡ b ∷ l → Peeked s i (Some b)
at_front {s} {i} e = record { is = go s i e }
  where
    go : (s : Bytes) (i : ℕ) {b : ℕ} {l : Bytes} → drop i s ≡ b ∷ l → Some b ≡ slice_get s i
    go [] zero e = let z : ◌≡◌ {A = ℕ} 0 1 = cc in absurd (omega arith)
    go [] (suc i) e = let z : ◌≡◌ {A = ℕ} 0 1 = cc in absurd (omega arith)
    go (x ∷ s) zero e = cc
    go (x ∷ s) (suc i) e = go s i e

pub in_text : (s : Bytes) (i : ℕ) {b : ℕ} → Peeked s i (Some b) → i < length s
in_text s i {b} g = go s i g.is
  where
    go : (s : Bytes) (i : ℕ) → Some b ≡ slice_get s i → i < length s
    go [] i e = let z : ◌≡◌ {A = ℕ} 0 1 = cc in absurd (omega arith)
    go (x ∷ s) zero e = omega arith
    go (x ∷ s) (suc i) e = suc-le-suc (go s i e)

-- past a byte that is there
pub fits_next : (s : Bytes) (k b : ℕ) (q : Option ℕ) → Peeked s k q → q ≡ Some b → length s < 2 ^ 64 → Fits w64 (k + 1)
fits_next s k b q g e l = record { fits = omega (arith, in_text s k (here g e)) }

-- ---- tests

pub inside : (lo hi b : ℕ) → lo ≤ b → b ≤ hi → between lo hi b ≡ true
inside lo hi b h k = rw (le-leb lo b h, le-leb b hi k)

pub under : (lo hi b : ℕ) → b < lo → between lo hi b ≡ false
under lo hi b h = rw (lt-leb lo b h)

pub above : (lo hi b : ℕ) → hi < b → between lo hi b ≡ false
above lo hi b h = go (leb lo b)
  where
    go : (t : Bool) → t && leb b hi ≡ false
    go true = lt-leb b hi h
    go false = refl

pub between_tells : (lo hi b : ℕ) → between lo hi b ≡ true → (lo ≤ b) × (b ≤ hi)
between_tells lo hi b e = let x = (and-eq-true_iff (leb lo b) (leb b hi)).0 e in (leb-true lo b x.0, leb-true b hi x.1)

pub one_of_lem : (ks : Bytes) (x : ℕ) → OneOf ks x → among ks x ≡ true
one_of_lem [] x h = absurd h
one_of_lem (k ∷ []) x h = rw (eq-eqb x k h)
one_of_lem (k ∷ (m ∷ ks)) x h = elim h [ inl e ↦ rw (eq-eqb x k e) | inr o ↦ later (eqb x k) (one_of_lem (m ∷ ks) x o) ]
  where
    later : (b : Bool) → among (m ∷ ks) x ≡ true → b || among (m ∷ ks) x ≡ true
    later true e = refl
    later false e = e

pub none_of : (ks : Bytes) (x : ℕ) → (OneOf ks x → ⊥) → among ks x ≡ false
none_of [] x h = refl
none_of (k ∷ []) x h = rw (ne_eqb x k h)
none_of (k ∷ (m ∷ ks)) x h = rw (ne_eqb x k (λ e. h (inl e))) (none_of (m ∷ ks) x (λ o. h (inr o)))

pub is_one : (b n : ℕ) → b ≡ n → among (n ∷ []) b ≡ true
is_one b n e = rw (eq-eqb b n e)

pub not_one : (b n : ℕ) → (b ≡ n → ⊥) → among (n ∷ []) b ≡ false
not_one b n e = rw (ne_eqb b n e)

-- the byte at a place, compared with a byte
pub this : {w : Bool} (q : Option ℕ) (n : ℕ) → w ≡ option_eq eqb q (Some n) → w ≡ true → q ≡ Some n
this None n e h = let z : true ≡ false = sym h ∙ e in let y : ◌≡◌ {A = ℕ} 0 1 = cc in absurd (omega arith)
this (Some b) n e h = ap Some (eqb-true b n (sym e ∙ h))

pub is_this : {w : Bool} (q : Option ℕ) (n : ℕ) → w ≡ option_eq eqb q (Some n) → w ≡ true → among (n ∷ []) (wide q) ≡ true
is_this q n e h = rw (this q n e h, eq-eqb n n refl)

pub not_this : {w : Bool} (q : Option ℕ) (n : ℕ) → n < 256 → w ≡ option_eq eqb q (Some n) → w ≡ false → among (n ∷ []) (wide q) ≡ false
not_this None n l e h = rw (ne_eqb 256 n (λ z. omega arith))
not_this (Some b) n l e h = let z : eqb b n ≡ false = sym e ∙ h in rw z

pub not_true : (x : Bool) → not x ≡ true → x ≡ false
not_true true e = sym e
not_true false e = refl

pub not_false : (x : Bool) → not x ≡ false → x ≡ true
not_false true e = refl
not_false false e = sym e

-- the same where the code asks whether it is another
module _ {w : Bool} (q : Option ℕ) (n : ℕ) where
  pub isnt_this : n < 256 → w ≡ not (option_eq eqb q (Some n)) → w ≡ true → among (n ∷ []) (wide q) ≡ false
  isnt_this l e h = not_this q n l refl (not_true (option_eq eqb q (Some n)) (sym e ∙ h))

  module _ (e : w ≡ not (option_eq eqb q (Some n))) (h : w ≡ false) where
    pub told_not : q ≡ Some n
    told_not = this q n refl (not_false (option_eq eqb q (Some n)) (sym e ∙ h))

    pub isnt_not : among (n ∷ []) (wide q) ≡ true
    isnt_not = is_this q n refl (not_false (option_eq eqb q (Some n)) (sym e ∙ h))

pub wide_is : {w : Bool} (q : Option ℕ) (n : ℕ) → w ≡ option_eq eqb q (Some n) → w ≡ true → wide q ≡ n
wide_is q n e h = ap wide (this q n e h)

pub wide_isnt : {w : Bool} (q : Option ℕ) (n : ℕ) → w ≡ not (option_eq eqb q (Some n)) → w ≡ false → wide q ≡ n
wide_isnt q n e h = ap wide (told_not q n e h)

pub among_not : (b n : ℕ) → among (n ∷ []) b ≡ false → b ≡ n → ⊥
among_not b n e h = let z : true ≡ false = sym (is_one b n h) ∙ e in let y : ◌≡◌ {A = ℕ} 0 1 = cc in omega arith

-- ---- what `?` took out, or left

module _ {A R : Type 0} {q : Option A} {w : ControlFlow R A} (e : q ≡ continue_value w) where
  pub took : {a : A} → w ≡ Continue a → q ≡ Some a
  took h = e ∙ ap continue_value h

  pub left : {r : R} → w ≡ Break r → q ≡ None
  left h = e ∙ ap continue_value h

-- ---- what was read, put at a place

pub more_more : {A : Type 0} (i n : ℕ) (r : Read A) → more i (more n r) ≡ more (i + n) r
unfolding more
more_more i n (got a m) = ap (got a) (omega arith)
more_more i n bad = refl

-- a value was read, or not
pub found : {A : Type 0} {q : Option ℕ} {j : ℕ} (r : Read A) → q ≡ place_of r → q ≡ Some j → (a : A) × (r ≡ got a j)
unfolding place_of
found {j} (got a n) e h = let z : n ≡ j = cc in (a, ap (got a) z)
found bad e h = let z : ◌≡◌ {A = ℕ} 0 1 = cc in absurd (omega arith)

pub missed : {A : Type 0} {q : Option ℕ} (r : Read A) → q ≡ place_of r → q ≡ None → r ≡ bad
unfolding place_of
missed (got a n) e h = let z : ◌≡◌ {A = ℕ} 0 1 = cc in absurd (omega arith)
missed bad e h = refl

pub pairs : {a b c d : ℕ} → ◌≡◌ {A = Option (ℕ × ℕ)} (Some (a, b)) (Some (c, d)) → (a ≡ c) × (b ≡ d)
pairs {a} {b} {c} {d} e = let z : ◌≡◌ {A = ℕ × ℕ} (a, b) (c, d) = cc in (ap (λ (p : ℕ × ℕ). p.0) z, ap (λ (p : ℕ × ℕ). p.1) z)

pub point_found : {q : Option (ℕ × ℕ)} {c j : ℕ} (r : Read ℕ) → q ≡ point_of r → q ≡ Some (c, j) → r ≡ got c j
unfolding point_of
point_found {c} {j} (got a n) e h = let z = pairs (sym e ∙ h) in rw (z.0, z.1)
point_found bad e h = let z : ◌≡◌ {A = ℕ} 0 1 = cc in absurd (omega arith)

pub point_missed : {q : Option (ℕ × ℕ)} (r : Read ℕ) → q ≡ point_of r → q ≡ None → r ≡ bad
unfolding point_of
point_missed (got a n) e h = let z : ◌≡◌ {A = ℕ} 0 1 = cc in absurd (omega arith)
point_missed bad e h = refl

-- ---- one reader after another

module _ {A B : Type 0} (p : Reader A) (k : A → Reader B) (s : Bytes) (i : ℕ) where
  then_from : (r : Read A) {a : A} {j : ℕ} → more i r ≡ got a j → more i (behind r (drop i s) k) ≡ more j (k a (drop j s))
  unfolding more behind
  then_from (got b n) {a} {j} e =
      let y : i + n ≡ j = cc in
      let z : b ≡ a = cc in
      rw (more_more, drop-drop, y, z)
  then_from bad e = let z : ◌≡◌ {A = ℕ} 0 1 = cc in absurd (omega arith)

  pub on : {a : A} {j : ℕ} → read_at p s i ≡ got a j → read_at (p >>= k) s i ≡ read_at (k a) s j
  unfolding read_at ◌>>=◌
  on e = then_from (p (drop i s)) e

  then_none : (r : Read A) → more i r ≡ bad → more i (behind r (drop i s) k) ≡ bad
  unfolding more behind
  then_none (got b n) e = let z : ◌≡◌ {A = ℕ} 0 1 = cc in absurd (omega arith)
  then_none bad e = refl

  pub then_bad : read_at p s i ≡ bad → read_at (p >>= k) s i ≡ bad
  unfolding read_at ◌>>=◌
  then_bad e = then_none (p (drop i s)) e

-- ---- the readers

module _ {s : Bytes} {i : ℕ} {q : Option ℕ} (g : Peeked s i q) where
  pub one_yes : (f : ℕ → Bool) → f (wide q) ≡ true → read_at (satisfy f) s i ≡ got tt (i + 1)
  unfolding read_at satisfy more
  one_yes f h = rw (← seen g, h)

  pub one_no : (f : ℕ → Bool) → f (wide q) ≡ false → read_at (satisfy f) s i ≡ bad
  unfolding read_at satisfy more
  one_no f h = rw (← seen g, h)

  module _ {A : Type 0} (p o : Reader A) where
    pub next_yes : (bytes : Bytes) → among bytes (wide q) ≡ true → read_at (if_next bytes then p else o) s i ≡ read_at p s i
    unfolding read_at if_next◌then◌else◌
    next_yes bytes h = rw (← seen g, h)

    pub next_no : (bytes : Bytes) → among bytes (wide q) ≡ false → read_at (if_next bytes then p else o) s i ≡ read_at o s i
    unfolding read_at if_next◌then◌else◌
    next_no bytes h = rw (← seen g, h)

    pub lead_yes : (lo hi : ℕ) → between lo hi (wide q) ≡ true → read_at (lead lo to hi then p else o) s i ≡ read_at p s (i + 1)
    unfolding read_at lead◌to◌then◌else◌ ◌>>=◌ satisfy behind
    lead_yes lo hi h = rw (← seen g, h, more_more, drop-drop)

    pub lead_no : (lo hi : ℕ) → between lo hi (wide q) ≡ false → read_at (lead lo to hi then p else o) s i ≡ read_at o s i
    unfolding read_at lead◌to◌then◌else◌
    lead_no lo hi h = rw (← seen g, h)

-- ---- choices, values

module _ {A : Type 0} (p q : Reader A) (s : Bytes) (i : ℕ) where
  or_from : (r o : Read A) {a : A} {j : ℕ} → more i r ≡ got a j → more i (either_read r o) ≡ got a j
  unfolding more either_read
  or_from (got b n) o e = e
  or_from bad o e = let z : ◌≡◌ {A = ℕ} 0 1 = cc in absurd (omega arith)

  pub or_first : {a : A} {j : ℕ} → read_at p s i ≡ got a j → read_at (p or q) s i ≡ got a j
  unfolding read_at ◌or◌
  or_first e = or_from (p (drop i s)) (q (drop i s)) e

  or_none : (r o : Read A) → more i r ≡ bad → more i (either_read r o) ≡ more i o
  unfolding more either_read
  or_none (got b n) o e = let z : ◌≡◌ {A = ℕ} 0 1 = cc in absurd (omega arith)
  or_none bad o e = refl

  pub or_second : read_at p s i ≡ bad → read_at (p or q) s i ≡ read_at q s i
  unfolding read_at ◌or◌
  or_second e = or_none (p (drop i s)) (q (drop i s)) e

pub give_at : {A : Type 0} (a : A) (s : Bytes) (i : ℕ) → read_at (give a) s i ≡ got a i
unfolding read_at give more
give_at a s i = rw add-zero

pub fail_at : {A : Type 0} (s : Bytes) (i : ℕ) → read_at {A = A} fail s i ≡ bad
unfolding read_at fail more
fail_at s i = refl

pub counted_at : {A : Type 0} (p : ℕ → Reader A) (s : Bytes) (i : ℕ) → read_at (counted p) s i ≡ read_at (p (suc (length (drop i s)))) s i
unfolding read_at counted
counted_at p s i = refl

more_mapped : {A B : Type 0} (f : A → B) (i : ℕ) (r : Read A) → more i (mapped f r) ≡ mapped f (more i r)
unfolding more mapped
more_mapped f i (got a n) = refl
more_mapped f i bad = refl

pub giving_at : {A B : Type 0} (p : Reader A) (f : A → B) (s : Bytes) (i : ℕ) → read_at (p giving f) s i ≡ mapped f (read_at p s i)
unfolding read_at ◌giving◌
giving_at p f s i = more_mapped f i (p (drop i s))

pub place_mapped : {A B : Type 0} (f : A → B) (r : Read A) → place_of (mapped f r) ≡ place_of r
unfolding mapped place_of
place_mapped f (got a n) = refl
place_mapped f bad = refl

pub place_giving : {A B : Type 0} (p : Reader A) (f : A → B) (s : Bytes) (i : ℕ) → place_of (read_at (p giving f) s i) ≡ place_of (read_at p s i)
place_giving p f s i = rw giving_at (place_mapped f (read_at p s i))

place_written : {A : Type 0} (l : Bytes) (i : ℕ) (r : Read A) → place_of (more i (as_written l r)) ≡ place_of (more i r)
unfolding more as_written place_of
place_written l i (got a n) = refl
place_written l i bad = refl

pub place_verbatim : {A : Type 0} (p : Reader A) (s : Bytes) (i : ℕ) → place_of (read_at (verbatim p) s i) ≡ place_of (read_at p s i)
unfolding read_at verbatim
place_verbatim p s i = place_written (drop i s) i (p (drop i s))

-- the place does not fall
pub not_before : {A : Type 0} (i : ℕ) (r : Read A) {a : A} {j : ℕ} → more i r ≡ got a j → i ≤ j
unfolding more
not_before i (got b n) {a} {j} e = let z : i + n ≡ j = cc in omega arith
not_before i bad e = let z : ◌≡◌ {A = ℕ} 0 1 = cc in absurd (omega arith)

pub no_fall : {A : Type 0} (p : Reader A) (s : Bytes) (i : ℕ) {a : A} {j : ℕ} → read_at p s i ≡ got a j → i ≤ j
unfolding read_at
no_fall p s i e = not_before i (p (drop i s)) e

last_give : {A B : Type 0} (f : A → B) (i : ℕ) (l : Bytes) (r : Read A) → more i (behind r l (λ a. give (f a))) ≡ mapped f (more i r)
unfolding more behind give mapped
last_give f i l (got a n) = ap (got (f a)) (omega arith)
last_give f i l bad = refl

pub map_give : {A B : Type 0} (p : Reader A) (f : A → B) (s : Bytes) (i : ℕ) → read_at (p >>= λ a. give (f a)) s i ≡ mapped f (read_at p s i)
unfolding read_at ◌>>=◌
map_give p f s i = last_give f i (drop i s) (p (drop i s))
