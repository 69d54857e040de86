-- Hosts and their labels in lower case.
use Rattle.std.specs.Prelude.{if◌then◌else◌}
use mathlib.Core.Path.{◌≡◌, refl, sym, ap, ap₂, ◌∙◌}
use mathlib.Core.List.{List, [], ◌∷◌, ◌++◌, map, map-append}
use mathlib.Core.Bool.{Bool, true, false, ◌&&◌, ◌||◌, and-eq-true_iff}
use Prim.Native.Nat.{ℕ, zero, suc, ◌+◌, ◌≤◌, ◌<◌}
use native.Mathlib.Omega.{arith}
use lib.ListN.{take, drop, length-map}
use lib.Dec.{eqb, leb}
use borrow.Author.Tests.{leb-true, le-leb, lt-leb, ne_eqb}
use Rattle.ascii.specs.Ascii.{Bytes, all, last_of, join_head, split_at, prefixed, join_with, is_digit, is_upper, is_letter, lower_byte, lower, same, text}
use Rattle.ascii.proofs.Compare.{length_lower}
use Rattle.hosts.specs.Host.{labels, is_label_byte, is_shaped, is_label, is_host, is_address}

-- ---- one byte

pub upper_range : (b : ℕ) → is_upper b ≡ true → (65 ≤ b) × (b ≤ 90)
unfolding is_upper
upper_range b e = let h = (and-eq-true_iff (leb 65 b) (leb b 90)).0 e in (leb-true 65 b h.0, leb-true b 90 h.1)

-- a test that is the same of an upper case letter and of its lower case
lower_test : (p : ℕ → Bool) → ((b : ℕ) → 65 ≤ b → b ≤ 90 → is_upper b ≡ true → p (b + 32) ≡ p b) → (b : ℕ) → p (lower_byte b) ≡ p b
unfolding lower_byte
lower_test p h b = go (is_upper b) refl
  where
    go : (u : Bool) → is_upper b ≡ u → p (if u then b + 32 else b) ≡ p b
    go false e = refl
    go true e = let r = upper_range b e in h b r.0 r.1 e

is_digit_lem : (b : ℕ) → is_digit (lower_byte b) ≡ is_digit b
unfolding is_digit
is_digit_lem = lower_test is_digit λ b lo hi e. simp (lt-leb (b + 32) 57 (omega arith), lt-leb b 57 (omega arith)) (and_zero (leb 48 (b + 32)) ∙ sym (and_zero (leb 48 b)))
  where
    and_zero : (x : Bool) → (x && false) ≡ false
    and_zero true = refl
    and_zero false = refl

pub is_byte : (d : ℕ) → d < 65 → (b : ℕ) → eqb (lower_byte b) d ≡ eqb b d
is_byte d s = lower_test (λ b. eqb b d) λ b lo hi e. ne_eqb (b + 32) d (λ k. omega arith) ∙ sym (ne_eqb b d (λ k. omega arith))

or_true : (x : Bool) → (x || true) ≡ true
or_true true = refl
or_true false = refl

pub is_label_byte_lem : (b : ℕ) → is_label_byte (lower_byte b) ≡ is_label_byte b
unfolding is_label_byte is_letter
is_label_byte_lem = lower_test is_label_byte λ b lo hi e. simp (le-leb 97 (b + 32) (omega arith), le-leb (b + 32) 122 (omega arith), e, or_true)

pub lower_lower : (b : ℕ) → lower_byte (lower_byte b) ≡ lower_byte b
unfolding lower_byte is_upper
lower_lower b = go (is_upper b) refl
  where
    go : (u : Bool) → is_upper b ≡ u → lower_byte (lower_byte b) ≡ lower_byte b
    go false e = simp e
    go true e = let r = upper_range b e in simp (e, lt-leb (b + 32) 90 (omega arith), le-leb 65 (b + 32) (omega arith))

-- ---- lists

pub map_map_eq : (f : ℕ → ℕ) → ((b : ℕ) → f (f b) ≡ f b) → (s : Bytes) → map f (map f s) ≡ map f s
map_map_eq f h [] = refl
map_map_eq f h (b ∷ s) = ap₂ ◌∷◌ (h b) (map_map_eq f h s)

pub drop_map : {A B : Type 0} (f : A → B) (n : ℕ) (l : List A) → drop n (map f l) ≡ map f (drop n l)
drop_map f zero l = refl
drop_map f (suc n) [] = refl
drop_map f (suc n) (x ∷ l) = drop_map f n l

pub last_map : {A B : Type 0} (f : A → B) (n : ℕ) (l : List A) → last_of n (map f l) ≡ map f (last_of n l)
unfolding last_of
last_map f n l = simp (length-map, drop_map)

all_map : {A : Type 0} (p : A → Bool) (f : A → A) → ((x : A) → p (f x) ≡ p x) → (l : List A) → all p (map f l) ≡ all p l
unfolding all
all_map p f h [] = refl
all_map p f h (x ∷ l) = ap₂ ◌&&◌ (h x) (all_map p f h l)

join_head_map : (b : ℕ) (ps : List Bytes) → join_head (lower_byte b) (map lower ps) ≡ map lower (join_head b ps)
unfolding join_head lower
join_head_map b [] = refl
join_head_map b (p ∷ ps) = refl

pub split_map : (d : ℕ) → d < 65 → (s : Bytes) → split_at d (lower s) ≡ map lower (split_at d s)
unfolding split_at lower
split_map d h [] = refl
split_map d h (b ∷ s) = go (eqb b d) refl (split_map d h s)
  where
    go : (u : Bool) → eqb b d ≡ u → split_at d (lower s) ≡ map lower (split_at d s)
        → (if eqb (lower_byte b) d then [] ∷ split_at d (lower s) else join_head (lower_byte b) (split_at d (lower s)))
        ≡ map lower (if u then [] ∷ split_at d s else join_head b (split_at d s))
    go true e ih = simp (is_byte d h b, e, ih)
    go false e ih = simp (is_byte d h b, e, ih) (join_head_map b (split_at d s))

-- ---- hosts

same_hyphen : (s : Bytes) → same (lower s) (text "-") ≡ same s (text "-")
unfolding same lower
same_hyphen [] = refl
same_hyphen (b ∷ []) = simp (is_byte 45 (omega arith) b)
same_hyphen (b ∷ c ∷ s) = simp (is_byte 45 (omega arith) b)

take_one : (s : Bytes) → take 1 (lower s) ≡ lower (take 1 s)
unfolding lower
take_one [] = refl
take_one (b ∷ s) = refl

last_one : (s : Bytes) → last_of 1 (lower s) ≡ lower (last_of 1 s)
unfolding lower
last_one s = last_map lower_byte 1 s

pub all_lower : (p : ℕ → Bool) → ((b : ℕ) → p (lower_byte b) ≡ p b) → (s : Bytes) → all p (lower s) ≡ all p s
unfolding lower
all_lower p h s = all_map p lower_byte h s

is_label_lem : (l : Bytes) → is_label (lower l) ≡ is_label l
unfolding is_label is_shaped
is_label_lem l = simp (length_lower, all_lower is_label_byte is_label_byte_lem, take_one, last_one, same_hyphen)

pub labels_lower : (h : Bytes) → labels (lower h) ≡ map lower (labels h)
unfolding labels
labels_lower h = split_map 46 (omega arith) h

pub is_host_lem : (h : Bytes) → is_host (lower h) ≡ is_host h
unfolding is_host
is_host_lem h = simp (length_lower, labels_lower, all_map is_label lower is_label_lem)

pub is_address_lem : (host : List Bytes) → is_address (map lower host) ≡ is_address host
unfolding is_address
is_address_lem host = simp (last_map, all_map (all is_digit) lower (all_lower is_digit is_digit_lem))

prefixed_lower : (ls : List Bytes) → prefixed 46 (map lower ls) ≡ lower (prefixed 46 ls)
unfolding prefixed lower lower_byte is_upper
prefixed_lower [] = refl
prefixed_lower (l ∷ ls) = simp (map-append, prefixed_lower ls)

pub join_lower : (ls : List Bytes) → join_with 46 (map lower ls) ≡ lower (join_with 46 ls)
unfolding join_with lower
join_lower [] = refl
join_lower (l ∷ ls) = ap (λ (r : Bytes). lower l ++ r) (prefixed_lower ls) ∙ sym (map-append lower_byte l (prefixed 46 ls))
