-- Label bytes, the shape of a label, and the loop of `is_host`. Assumes nothing.
use mathlib.Core.Path.{◌≡◌, refl, sym, ◌∙◌}
use mathlib.Core.Bool.{Bool, true, false, and-false, and-true}
use mathlib.Core.List.{[], ◌∷◌, ◌++◌}
use Prim.Native.Nat.{ℕ, suc, ◌+◌, ◌-◌, ◌≤◌, ◌<◌}
use native.Mathlib.Numerals.{add-one}
use native.Mathlib.Omega.{arith}
use lib.ListN.{length, get_or, take, drop, drop_of_length-le}
use lib.Seq.{drop-cons}
use lib.Dec.{eqb, ltb}
use borrow.Author.Tests.{eq-eqb, ne_eqb, eqb-true, eqb-false, lt-leb, le-leb}
use Rattle.ascii.specs.Ascii.{Bytes, all, take_while, last_of, join_head, split_at, is_digit, is_letter, is_upper, same}
use Rattle.ascii.specs.Class.{class_of, Classifies}
use Rattle.ascii.specs.code.Runs.{Answers, RunEnds}
use Rattle.ascii.proofs.Bytes.{agree}
use Rattle.ascii.proofs.Scan.{while_all, while_stops, scan_rest, scan_part, scan_from, scan_to}
use Rattle.ascii.proofs.Split.{split_parts, split_other, on_first, split_while, on_first_end, on_first_here}
use Rattle.hosts.specs.Host.{labels, is_label_byte, is_shaped, is_label, is_host}
use Rattle.hosts.specs.code.Lent.{has_label_class, LabelEnds, HostBy}

-- ---- label bytes by their class

pub class_is : (table : Bytes) (b : ℕ) → ltb (get_or table b 0) 3 ≡ has_label_class table b
unfolding has_label_class
class_is table b = refl

-- the classes 0, 1 and 2 are the label bytes
label_class : (table : Bytes) → Classifies table → (b : ℕ) → b < 256 → has_label_class table b ≡ is_label_byte b
unfolding has_label_class class_of is_letter is_upper is_digit is_label_byte
label_class table C b h = rw (C.is b h) (agree (λ k. ltb (class_of k) 3) is_label_byte tt b h)

pub label_ends : (table s : Bytes) (from to : ℕ) {P : ℕ → Bool → Type 0} → RunEnds P s from to → Answers P (has_label_class table) → LabelEnds table s from to
label_ends table s from to R A =
    let g = R.is (has_label_class table) A in
    record {
      onward = scan_from (has_label_class table) s from to g;
      inside = scan_to (has_label_class table) s from to g;
      is = λ C. R.is is_label_byte (λ b q h p. A b q h p ∙ label_class table C b h);
    }

pub while_same : (f g : ℕ → Bool) → ((b : ℕ) → f b ≡ g b) → (l : Bytes) → take_while f l ≡ take_while g l
unfolding take_while
while_same f g e [] = refl
while_same f g e (b ∷ l) = rw (e b, while_same f g e l)

-- ---- 1 to 63 bytes, no hyphen first or last

first_is : (l : Bytes) → 1 ≤ length l → same (take 1 l) (45 ∷ []) ≡ eqb (get_or l 0 0) 45
unfolding same
first_is [] h = absurd (omega arith)
first_is (b ∷ l) h = and-true (eqb b 45)

last_is : (l : Bytes) → 1 ≤ length l → same (last_of 1 l) (45 ∷ []) ≡ eqb (get_or l (length l - 1) 0) 45
unfolding same last_of
last_is l h =
    let k : length l - 1 < length l = omega arith in
    let m : length l ≤ suc (length l - 1) = omega arith in
    rw (drop-cons l (length l - 1) 0 k, drop_of_length-le l m) (and-true (eqb (get_or l (length l - 1) 0) 45))

module _ (l : Bytes) where
  pub shaped_empty : length l < 1 → false ≡ is_shaped l
  unfolding is_shaped
  shaped_empty h = rw (lt-leb 1 (length l) h)

  pub shaped_long : 63 < length l → false ≡ is_shaped l
  unfolding is_shaped
  shaped_long h = rw (lt-leb (length l) 63 h, and-false)

  module _ (h : 1 ≤ length l) where
    pub shaped_first : get_or l 0 0 ≡ 45 → false ≡ is_shaped l
    unfolding is_shaped
    shaped_first e = rw (first_is l h, eq-eqb _ _ e, and-false)

    pub shaped_last : get_or l (length l - 1) 0 ≡ 45 → false ≡ is_shaped l
    unfolding is_shaped
    shaped_last e = rw (last_is l h, eq-eqb _ _ e, and-false)

    pub shaped_yes : length l ≤ 63 → (get_or l 0 0 ≡ 45 → ⊥) → (get_or l (length l - 1) 0 ≡ 45 → ⊥) → true ≡ is_shaped l
    unfolding is_shaped
    shaped_yes k m n = rw (le-leb 1 (length l) h, le-leb (length l) 63 k, first_is l h, ne_eqb _ _ m, last_is l h, ne_eqb _ _ n)

-- ---- the labels of a host, one after the other

pub shape_only : (p : Bytes) → all is_label_byte p ≡ true → is_label p ≡ is_shaped p
unfolding is_label
shape_only p h = rw h

all_append : (f : ℕ → Bool) (p q : Bytes) (b : ℕ) → f b ≡ false → all f (p ++ b ∷ q) ≡ false
unfolding all
all_append f [] q b h = rw h
all_append f (x ∷ p) q b h = rw (all_append f p q b h, and-false)

-- p is followed by a byte that no label has, and that is no dot
bad_first : (p m : Bytes) (b : ℕ) → is_label_byte b ≡ false → (b ≡ 46 → ⊥) → all is_label (on_first p (split_at 46 (b ∷ m))) ≡ false
unfolding all on_first join_head is_label
bad_first p m b h n =
    let P = split_parts 46 m in
    rw (split_other 46 b m n, P.is, all_append is_label_byte p P.first b h)

misshapen : (p m : Bytes) → all is_label_byte p ≡ true → ((b : ℕ) (k : Bytes) → m ≡ b ∷ k → is_label_byte b ≡ false) → is_shaped p ≡ false
    → all is_label (on_first p (split_at 46 m)) ≡ false
unfolding all
misshapen p [] a s h = rw (on_first_end 46 p, shape_only p a, h)
misshapen p (b ∷ m) a s h = go (eqb b 46) refl
  where
    go : (u : Bool) → eqb b 46 ≡ u → all is_label (on_first p (split_at 46 (b ∷ m))) ≡ false
    go true e = rw (eqb-true b 46 e, on_first_here 46 p m, shape_only p a, h)
    go false e = bad_first p m b (s b m refl) (eqb-false b 46 e)

dot_no_label : is_label_byte 46 ≡ false
unfolding is_label_byte is_letter is_upper is_digit
dot_no_label = refl

pub host_empty : (s : Bytes) → length s < 1 → false ≡ is_host s
unfolding is_host
host_empty s h = rw (lt-leb 1 (length s) h)

pub host_long : (s : Bytes) → 253 < length s → false ≡ is_host s
unfolding is_host
host_long s h = rw (lt-leb (length s) 253 h, and-false)

-- the labels from a place on decide
pub record HostFrom (s : Bytes) (from : ℕ) : Type 0 where
  pub inside : from ≤ length s
  pub is : all is_label (split_at 46 (drop from s)) ≡ is_host s

host_starts : (s : Bytes) → 1 ≤ length s → length s ≤ 253 → HostFrom s 0
unfolding is_host labels
host_starts s h k = record { inside = omega arith; is = rw (le-leb 1 (length s) h, le-leb (length s) 253 k) }

module _ {s : Bytes} {from : ℕ} (H : HostFrom s from) {to : ℕ} (g : to ≡ from + length (take_while is_label_byte (drop from s))) where
  host_part_end : to ≤ length s
  host_part_end = scan_to is_label_byte s from to g H.inside

  passing : all is_label_byte (take_while is_label_byte (drop from s)) ≡ true
  passing = while_all is_label_byte (drop from s)

  split_is : all is_label (on_first (take_while is_label_byte (drop from s)) (split_at 46 (drop to s))) ≡ is_host s
  split_is = rw (scan_rest is_label_byte s from to g, ← split_while is_label_byte 46 dot_no_label (drop from s)) H.is

  -- the byte at which the scan stopped
  stopped : (b : ℕ) (k : Bytes) → drop to s ≡ b ∷ k → is_label_byte b ≡ false
  stopped b k e = while_stops is_label_byte (drop from s) b k (sym (scan_rest is_label_byte s from to g) ∙ e)

  module _ {r : Bool} (t : r ≡ is_shaped (take (to - from) (drop from s))) where
    shape_is : is_label (take_while is_label_byte (drop from s)) ≡ r
    shape_is = shape_only (take_while is_label_byte (drop from s)) passing ∙ sym (t ∙ rw (scan_part is_label_byte s from to g))

    host_misshapen : r ≡ false → false ≡ is_host s
    host_misshapen w =
        sym (misshapen (take_while is_label_byte (drop from s)) (drop to s) passing stopped
        (sym (shape_only (take_while is_label_byte (drop from s)) passing) ∙ shape_is ∙ w))
        ∙ split_is

    host_ends : r ≡ true → length s ≤ to → true ≡ is_host s
    unfolding all
    host_ends w h = sym (rw (drop_of_length-le s h, on_first_end 46 (take_while is_label_byte (drop from s)), shape_is, w)) ∙ split_is

    module _ (h : to < length s) where
      host_other : r ≡ true → (get_or s to 0 ≡ 46 → ⊥) → false ≡ is_host s
      host_other w n =
          sym (rw (drop-cons s to 0 h) (bad_first (take_while is_label_byte (drop from s)) (drop (suc to) s) (get_or s to 0)
          (stopped (get_or s to 0) (drop (suc to) s) (drop-cons s to 0 h)) n))
          ∙ split_is

      host_more : r ≡ true → get_or s to 0 ≡ 46 → HostFrom s (to + 1)
      unfolding all
      host_more w e = record {
        inside = omega (arith, host_part_end);
        is = sym (rw (add-one, drop-cons s to 0 h, e, on_first_here 46 (take_while is_label_byte (drop from s)) (drop (suc to) s), shape_is, w)) ∙ split_is;
      }

-- ---- the same by a table that is lent

pub host_anyhow : {classes s : Bytes} {r : Bool} → r ≡ is_host s → HostBy classes s r
host_anyhow e = record { is = λ C. e }

pub record HostFromBy (classes s : Bytes) (from : ℕ) : Type 0 where
  pub inside : from ≤ length s
  pub is : Classifies classes → HostFrom s from

pub by_starts : (classes s : Bytes) → 1 ≤ length s → length s ≤ 253 → HostFromBy classes s 0
by_starts classes s h k = record { inside = omega arith; is = λ C. host_starts s h k }

module _ {classes s : Bytes} {from to : ℕ} (H : HostFromBy classes s from) (L : LabelEnds classes s from to) where
  module _ {r : Bool} (t : r ≡ is_shaped (take (to - from) (drop from s))) where
    pub by_misshapen : r ≡ false → HostBy classes s false
    by_misshapen w = record { is = λ C. host_misshapen (H.is C) (L.is C) t w }

    pub by_ends : r ≡ true → length s ≤ to → HostBy classes s true
    by_ends w h = record { is = λ C. host_ends (H.is C) (L.is C) t w h }

    module _ (h : to < length s) (w : r ≡ true) where
      pub by_other : (get_or s to 0 ≡ 46 → ⊥) → HostBy classes s false
      by_other n = record { is = λ C. host_other (H.is C) (L.is C) t h w n }

      pub by_more : get_or s to 0 ≡ 46 → HostFromBy classes s (to + 1)
      by_more e = record { inside = omega arith; is = λ C. host_more (H.is C) (L.is C) t h w e }
