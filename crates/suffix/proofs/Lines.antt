-- One line of the table: what it finds for a host. Assumes nothing.
use Rattle.std.specs.Prelude.{if◌then◌else◌, None, Some}
use mathlib.Core.Path.{◌≡◌, refl, sym, ap, ap₂, ◌∙◌}
use mathlib.Core.Bool.{Bool, true, false, ◌&&◌, and-false, or-true, and-eq-true_iff}
use mathlib.Core.List.{List, [], ◌∷◌, ◌++◌}
use Prim.Native.Nat.{ℕ, suc, ◌+◌, ◌-◌, ◌≤◌, ◌<◌, max}
use native.Mathlib.Omega.{arith}
use native.Mathlib.Numerals.{add-one}
use lib.ListN.{length, drop}
use lib.ListN.{length-drop, length-append}
use lib.Dec.{eqb, leb, ltb}
use borrow.Author.Tests.{eqb-true, le-leb, ltb-true, ltb-false}
use Rattle.ascii.specs.Ascii.{Bytes, all, filter_by, last_of, join_head, split_at, is_digit, is_letter, is_upper, same, begins_with}
use Rattle.ascii.proofs.Split.{split_parts, split_other}
use Rattle.hosts.specs.Host.{labels, is_label_byte, is_label, is_host}
use Rattle.hosts.specs.code.Place.{ends_at_label}
use Rattle.suffix.specs.Suffix.{Rule, normal, exceptional, is_skipped, read_rule, name_matches, all_match, matches}
use Rattle.suffix.specs.code.Pass.{sized, max_labels, sizes, best_of, one_rule, read_line}
use Rattle.hosts.proofs.Ends.{labels_some, ends_fewer, ends_whole}
use Rattle.suffix.proofs.Ends.{match_labels, wild, wild_few, wild_more}

-- ---- what one rule finds

max_zero : (n : ℕ) → max n 0 ≡ n
max_zero n = omega arith

one_normal : (host ns : List Bytes) → matches host (normal ns) ≡ true → sized 0 (length ns) ≡ best_of host (one_rule (Some (normal ns)))
unfolding best_of sizes one_rule filter_by max_labels
one_normal host ns e = rw (e, max_zero)

one_exception : (host ns : List Bytes) → matches host (exceptional ns) ≡ true → sized (length ns) (length ns) ≡ best_of host (one_rule (Some (exceptional ns)))
unfolding best_of sizes one_rule filter_by max_labels
one_exception host ns e = rw (e, max_zero)

one_none : (host : List Bytes) (r : Rule) → matches host r ≡ false → sized 0 0 ≡ best_of host (one_rule (Some r))
unfolding best_of sizes one_rule filter_by max_labels
one_none host r e = rw e

-- ---- a rule by its form

pub no_host : (b : ℕ) (x : Bytes) → is_label_byte b ≡ false → (b ≡ 46 → ⊥) → is_host (b ∷ x) ≡ false
unfolding is_host labels all is_label join_head
no_host b x h n = let P = split_parts 46 x in rw (split_other 46 b x n, P.is, h, and-false)

star_byte : is_label_byte 42 ≡ false
unfolding is_label_byte is_letter is_upper is_digit
star_byte = refl

mark_byte : is_label_byte 33 ≡ false
unfolding is_label_byte is_letter is_upper is_digit
mark_byte = refl

pub rule_host : (s : Bytes) → is_host s ≡ true → read_rule s ≡ Some (normal (labels s))
unfolding read_rule
rule_host s h = rw h

labels_wild : (v : Bytes) → labels (42 ∷ 46 ∷ v) ≡ (42 ∷ []) ∷ labels v
unfolding labels split_at join_head
labels_wild v = refl

module _ (v : Bytes) where
  pub wild_form : read_rule (42 ∷ 46 ∷ v) ≡ (if is_host v && leb (suc (suc (length v))) 253 then Some (wild v) else None)
  unfolding read_rule same begins_with
  wild_form = rw (no_host 42 (46 ∷ v) star_byte (λ z. omega arith), labels_wild v)

  pub rule_wild : is_host v ≡ true → length v ≤ 251 → read_rule (42 ∷ 46 ∷ v) ≡ Some (wild v)
  rule_wild h l = wild_form ∙ rw (h, le-leb (suc (suc (length v))) 253 (omega arith))

  pub exception_form : read_rule (33 ∷ v) ≡ (if is_host v && leb 2 (length (labels v)) then Some (exceptional (labels v)) else None)
  unfolding read_rule same begins_with
  exception_form = rw (no_host 33 v mark_byte (λ z. omega arith))

  pub rule_exception : is_host v ≡ true → 2 ≤ length (labels v) → read_rule (33 ∷ v) ≡ Some (exceptional (labels v))
  rule_exception h l = exception_form ∙ rw (h, le-leb 2 (length (labels v)) l)

pub rule_star : read_rule (42 ∷ []) ≡ Some (normal ((42 ∷ []) ∷ []))
unfolding read_rule same labels split_at join_head
rule_star = rw (no_host 42 [] star_byte (λ z. omega arith))

match_star : (h : Bytes) → matches (labels h) (normal ((42 ∷ []) ∷ [])) ≡ true
unfolding matches
match_star h = rw (le-leb 1 (length (labels h)) (labels_some h)) (go (last_of 1 (labels h)) (one_last (labels h) (labels_some h)))
  where
    one_last : (ls : List Bytes) → 1 ≤ length ls → length (last_of 1 ls) ≡ 1
    one_last ls l = unfold last_of in (length-drop (length ls - 1) ls ∙ omega arith)

    go : (ls : List Bytes) → length ls ≡ 1 → all_match ((42 ∷ []) ∷ []) ls ≡ true
    go [] e = absurd (omega arith)
    go (l ∷ []) e = unfold all_match name_matches same in refl
    go (l ∷ m ∷ ls) e = absurd (omega arith)

-- ---- the ways out of the code

pub is_told : (s : Bytes) {a : Bool} → a ≡ is_host s → a ≡ true → is_host s ≡ true
is_told s e f = sym e ∙ f

module _ (h w : Bytes) (k : is_host w ≡ true) {b : Bool} (e : b ≡ ends_at_label w h) where
  pub host_yes : {n : ℕ} → b ≡ true → n ≡ length (labels w) → sized 0 n ≡ best_of (labels h) (one_rule (read_rule w))
  host_yes f g = rw (g, rule_host w k) (one_normal (labels h) (labels w) (match_labels false w h k ∙ sym e ∙ f))

  pub host_no : b ≡ false → sized 0 0 ≡ best_of (labels h) (one_rule (read_rule w))
  host_no f = rw (rule_host w k) (one_none (labels h) (normal (labels w)) (match_labels false w h k ∙ sym e ∙ f))

module _ (h v : Bytes) (k : is_host v ≡ true) where
  module _ (l : length v ≤ 251) {b : Bool} (e : b ≡ ends_at_label v h) where
    pub wild_no : b ≡ false → sized 0 0 ≡ best_of (labels h) (one_rule (read_rule (42 ∷ 46 ∷ v)))
    wild_no f = rw (rule_wild v k l) (one_none (labels h) (wild v) (go (ltb (length (labels v)) (length (labels h))) refl))
      where
        go : (u : Bool) → ltb (length (labels v)) (length (labels h)) ≡ u → matches (labels h) (wild v) ≡ false
        go true m = wild_more v h k (ltb-true (length (labels v)) (length (labels h)) m) ∙ sym e ∙ f
        go false m = wild_few v h (ltb-false (length (labels v)) (length (labels h)) m)

    pub wild_yes : {n : ℕ} → b ≡ true → length v < length h → n ≡ length (labels v) → sized 0 (n + 1) ≡ best_of (labels h) (one_rule (read_rule (42 ∷ 46 ∷ v)))
    wild_yes f m g = rw (rule_wild v k l, g, add-one) (one_normal (labels h) ((42 ∷ []) ∷ labels v) (wild_more v h k (ends_fewer v h (sym e ∙ f) m) ∙ sym e ∙ f))

    pub wild_less : b ≡ true → length h ≤ length v → sized 0 0 ≡ best_of (labels h) (one_rule (read_rule (42 ∷ 46 ∷ v)))
    wild_less f m = rw (rule_wild v k l) (one_none (labels h) (wild v) (wild_few v h (ends_whole v h (sym e ∙ f) m)))

  module _ (l : 2 ≤ length (labels v)) {b : Bool} (e : b ≡ ends_at_label v h) where
    pub exception_yes : {n : ℕ} → b ≡ true → n ≡ length (labels v) → sized n n ≡ best_of (labels h) (one_rule (read_rule (33 ∷ v)))
    exception_yes f g = rw (rule_exception v k l, g) (one_exception (labels h) (labels v) (match_labels true v h k ∙ sym e ∙ f))

    pub exception_no : b ≡ false → sized 0 0 ≡ best_of (labels h) (one_rule (read_rule (33 ∷ v)))
    exception_no f = rw (rule_exception v k l) (one_none (labels h) (exceptional (labels v)) (match_labels true v h k ∙ sym e ∙ f))

-- the rule `*`
pub star_found : (h : Bytes) → sized 0 1 ≡ best_of (labels h) (Some (normal ((42 ∷ []) ∷ []) ∷ []))
star_found h = one_normal (labels h) ((42 ∷ []) ∷ []) (match_star h) ∙ (unfold one_rule in refl)

-- no rule
pub nothing_found : (h : Bytes) → sized 0 0 ≡ best_of (labels h) (Some [])
unfolding best_of sizes filter_by max_labels
nothing_found h = refl

pub begins_is : (p w : Bytes) → begins_with p w ≡ true → w ≡ p ++ drop (length p) w
unfolding begins_with
begins_is [] w e = refl
begins_is (b ∷ p) [] e = let z : ◌≡◌ {A = ℕ} 0 1 = cc in absurd (omega arith)
begins_is (b ∷ p) (c ∷ w) e = let h = (and-eq-true_iff (eqb b c) (begins_with p w)).0 e in ap₂ ◌∷◌ (sym (eqb-true b c h.0)) (begins_is p w h.1)

pub begins_length : (p w : Bytes) → begins_with p w ≡ true → length p ≤ length w
begins_length p w e = omega (arith, ap length (begins_is p w e), length-append p (drop (length p) w))

pub empty_skipped : (s : Bytes) → length s ≡ 0 → is_skipped s ≡ true
unfolding is_skipped
empty_skipped [] e = refl
empty_skipped (b ∷ s) e = absurd (omega arith)

pub comment_skipped : (s : Bytes) → begins_with (47 ∷ 47 ∷ []) s ≡ true → is_skipped s ≡ true
unfolding is_skipped
comment_skipped s g = rw (g, or-true)

pub other_read : (s : Bytes) → (length s ≡ 0 → ⊥) → begins_with (47 ∷ 47 ∷ []) s ≡ false → is_skipped s ≡ false
unfolding is_skipped
other_read [] n g = absurd (n refl)
other_read (b ∷ s) n g = rw g

module _ (h w : Bytes) where
  none_found : is_skipped w ≡ true → sized 0 0 ≡ best_of (labels h) (read_line w)
  unfolding read_line best_of sizes filter_by max_labels
  none_found e = rw e

  pub line_empty : length w ≡ 0 → sized 0 0 ≡ best_of (labels h) (read_line w)
  line_empty e = none_found (empty_skipped w e)

  module _ {r : Bool} (e : r ≡ begins_with (47 ∷ 47 ∷ []) w) where
    pub line_comment : r ≡ true → sized 0 0 ≡ best_of (labels h) (read_line w)
    line_comment f = none_found (comment_skipped w (sym e ∙ f))
