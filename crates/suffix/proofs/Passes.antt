-- The pass over the table, line by line. Assumes nothing.
use Rattle.std.specs.Prelude.{if◌then◌else◌, Option, None, Some}
use mathlib.Core.Path.{◌≡◌, refl, sym, ap, ap₂, ◌∙◌}
use mathlib.Core.Bool.{Bool, true, false, ◌&&◌, not, and-false, or-true, and-eq-true_iff}
use mathlib.Core.List.{List, [], ◌∷◌}
use Prim.Native.Nat.{ℕ, suc, ◌+◌, ◌-◌, ◌≤◌, ◌<◌, max}
use native.Mathlib.Omega.{arith}
use native.Mathlib.Numerals.{add-one}
use mir.Val.{Fits}
use mir.Syntax.{w64}
use lib.ListN.{length, get_or, take, drop, drop_of_length-le}
use lib.Seq.{drop-cons}
use lib.Dec.{eqb, ltb}
use borrow.Author.Tests.{eq-eqb, ne_eqb, eqb-true, le-leb, lt-leb, ltb-true, ltb-false, not-false}
use Rattle.ascii.specs.Ascii.{Bytes, ◌>>=◌, filter_by, take_while, drop_while, split_at}
use Rattle.ascii.proofs.Scan.{while_stops, scan_rest, scan_part, scan_to}
use Rattle.ascii.proofs.Split.{on_first, split_while, on_first_end, on_first_here}
use Rattle.hosts.specs.Host.{labels}
use Rattle.suffix.specs.Suffix.{Rule, is_blank, content, is_skipped, read_rule, read_lines, read_table, matches}
use Rattle.suffix.specs.code.Pass.{sizes_of, sized, max_labels, sizes, best_of, joined, join_best, one_rule, read_line, in_line, in_content}
use Rattle.suffix.specs.code.Passed.{lines_from}
use Rattle.suffix.specs.declared.Sizes.{Sizes}

-- ---- bytes of a line

pub line_lf : (b : ℕ) → b ≡ 10 → false ≡ in_line b
unfolding in_line
line_lf b e = rw (eq-eqb _ _ e)

pub line_other : (b : ℕ) → (b ≡ 10 → ⊥) → true ≡ in_line b
unfolding in_line
line_other b n = rw (ne_eqb _ _ n)

module _ (b : ℕ) where
  pub content_lf : b ≡ 10 → false ≡ in_content b
  unfolding in_content
  content_lf e = rw (← line_lf b e)

  pub content_space : b ≡ 32 → false ≡ in_content b
  unfolding in_content is_blank
  content_space e = rw (eq-eqb _ _ e, and-false)

  pub content_tab : b ≡ 9 → false ≡ in_content b
  unfolding in_content is_blank
  content_tab e = rw (eq-eqb b 9 e, or-true, and-false)

  pub content_cr : b ≡ 13 → false ≡ in_content b
  unfolding in_content is_blank
  content_cr e = rw (eq-eqb b 13 e, or-true, and-false)

  pub content_other : (b ≡ 10 → ⊥) → (b ≡ 32 → ⊥) → (b ≡ 9 → ⊥) → (b ≡ 13 → ⊥) → true ≡ in_content b
  unfolding in_content is_blank
  content_other k l m n = rw (← line_other b k, ne_eqb b 32 l, ne_eqb b 9 m, ne_eqb b 13 n)

  pub content_high : 32 < b → true ≡ in_content b
  content_high h = content_other (λ z. omega arith) (λ z. omega arith) (λ z. omega arith) (λ z. omega arith)

-- ---- findings

pub join_zero : (b : Option Sizes) → join_best (sized 0 0) b ≡ b
unfolding join_best
join_zero None = refl
join_zero (Some s) = ap₂ sized (omega arith) (omega arith)

pub join_bad : (b : Option Sizes) → join_best b None ≡ None
unfolding join_best
join_bad None = refl
join_bad (Some s) = refl

pub join_assoc : (a b c : Option Sizes) → join_best (join_best a b) c ≡ join_best a (join_best b c)
unfolding join_best
join_assoc None b c = refl
join_assoc (Some s) None c = refl
join_assoc (Some s) (Some t) None = refl
join_assoc (Some s) (Some t) (Some u) = ap₂ sized (omega arith) (omega arith)

pub join_join : (s t : Sizes) (b : Option Sizes) → join_best (Some s) (join_best (Some t) b) ≡ join_best (Some (joined s t)) b
unfolding join_best
join_join s t None = refl
join_join s t (Some u) = ap₂ sized (omega arith) (omega arith)

-- equal findings have equal numbers
abbrev exceptions_in : Option Sizes → ℕ
exceptions_in None = 0
exceptions_in (Some s) = s.exception

abbrev most_in : Option Sizes → ℕ
most_in None = 0
most_in (Some s) = s.most

pub same_sizes : {e m f n : ℕ} → sized e m ≡ sized f n → (e ≡ f) × (m ≡ n)
same_sizes h = (ap exceptions_in h, ap most_in h)

most_one : (n k : ℕ) → max (max n 0) k ≡ max n k
most_one n k = omega arith

zero_most : (k : ℕ) → max 0 k ≡ k
zero_most k = omega arith

-- one rule more
rule_more : (host : List Bytes) (r : Rule) (rs : List Rule) → best_of host (Some (r ∷ rs)) ≡ join_best (best_of host (Some (r ∷ []))) (best_of host (Some rs))
unfolding best_of sizes join_best filter_by max_labels
rule_more host r rs = go (matches host r)
  where
    inner : (x : Bool) (n : ℕ) (ms : List Rule)
        → sized (max_labels (if x then r ∷ filter_by (λ r. r.exception) ms else filter_by (λ r. r.exception) ms)) (max n (max_labels ms))
        ≡ sized (max (max_labels (if x then r ∷ [] else [])) (max_labels (filter_by (λ r. r.exception) ms))) (max (max n 0) (max_labels ms))
    inner true n ms = ap₂ sized (sym (most_one (length r.names) (max_labels (filter_by (λ r. r.exception) ms)))) (sym (most_one n (max_labels ms)))
    inner false n ms = ap₂ sized (sym (zero_most (max_labels (filter_by (λ r. r.exception) ms)))) (sym (most_one n (max_labels ms)))

    go : (u : Bool) → Some (sizes (if u then r ∷ filter_by (matches host) rs else filter_by (matches host) rs)) ≡ join_best (Some (sizes (if u then r ∷ [] else []))) (Some (sizes (filter_by (matches host) rs)))
    go true = inner r.exception (length r.names) (filter_by (matches host) rs)
    go false = sym (join_zero (Some (sizes (filter_by (matches host) rs))))

-- one line more
pub lines_step : (host : List Bytes) (l : Bytes) (ls : List Bytes) → best_of host (read_lines (l ∷ ls)) ≡ join_best (best_of host (read_line (content l))) (best_of host (read_lines ls))
unfolding read_lines read_line
lines_step host l ls = go (is_skipped (content l)) (read_rule (content l)) (read_lines ls)
  where
    go : (u : Bool) (r : Option Rule) (rs : Option (List Rule))
        → best_of host (if u then rs else (r >>= λ r. rs >>= λ rs. Some (r ∷ rs))) ≡ join_best (best_of host (if u then Some [] else one_rule r)) (best_of host rs)
    go true r rs = unfold best_of sizes filter_by max_labels in (sym (join_zero (best_of host rs)))
    go false None rs = unfold best_of one_rule join_best in refl
    go false (Some r) None = unfold best_of one_rule in (sym (join_bad (Some (sizes (filter_by (matches host) (r ∷ []))))))
    go false (Some r) (Some rs) = unfold one_rule in (rule_more host r rs)

none_left : (host : List Bytes) → best_of host (read_lines (split_at 10 [])) ≡ best_of host (read_lines [])
unfolding split_at read_lines content take_while is_skipped
none_left host = refl

pub none_sizes : (host : List Bytes) → best_of host (read_lines []) ≡ sized 0 0
unfolding read_lines best_of sizes filter_by max_labels
none_sizes host = refl

-- ---- the content of a line, and the next line

while_while : (f g : ℕ → Bool) (l : Bytes) → take_while g (take_while f l) ≡ take_while (λ b. f b && g b) l
unfolding take_while
while_while f g [] = refl
while_while f g (b ∷ l) = go (f b) (g b) refl refl (while_while f g l)
  where
    go : (u v : Bool) → f b ≡ u → g b ≡ v → take_while g (take_while f l) ≡ take_while (λ b. f b && g b) l
        → take_while g (if u then b ∷ take_while f l else []) ≡ (if u && v then b ∷ take_while (λ b. f b && g b) l else [])
    go true true e h ih = rw (h, ih)
    go true false e h ih = rw h
    go false v e h ih = refl

pub content_is : (l : Bytes) → content (take_while in_line l) ≡ take_while in_content l
unfolding content in_content
content_is l = while_while in_line (λ b. not (is_blank b)) l

-- a scan in two steps
pub while_two : (f g : ℕ → Bool) → ((b : ℕ) → f b ≡ true → g b ≡ true) → (l : Bytes)
    → length (take_while f l) + length (take_while g (drop_while f l)) ≡ length (take_while g l)
unfolding take_while drop_while
while_two f g h [] = refl
while_two f g h (b ∷ l) = go (f b) refl (while_two f g h l)
  where
    go : (u : Bool) → f b ≡ u → length (take_while f l) + length (take_while g (drop_while f l)) ≡ length (take_while g l)
        → length (if u then b ∷ take_while f l else []) + length (take_while g (if u then drop_while f l else b ∷ l)) ≡ length (if g b then b ∷ take_while g l else [])
    go true e ih = rw (h b e) (omega arith)
    go false e ih = omega arith

in_both : (b : ℕ) → in_content b ≡ true → in_line b ≡ true
unfolding in_content
in_both b e = ((and-eq-true_iff (in_line b) (not (is_blank b))).0 e).0

lf_ends : in_line 10 ≡ false
unfolding in_line
lf_ends = refl

is_lf : (b : ℕ) → in_line b ≡ false → b ≡ 10
unfolding in_line
is_lf b e = eqb-true b 10 (not-false (eqb b 10) e)

-- a line ends at an LF or at the end
pub line_stops : (s : Bytes) (at to : ℕ) → to ≡ at + length (take_while in_line (drop at s)) → to < length s → get_or s to 0 ≡ 10
line_stops s at to g l = is_lf (get_or s to 0) (while_stops in_line (drop at s) (get_or s to 0) (drop (suc to) s) (sym (scan_rest in_line s at to g) ∙ drop-cons s to 0 l))

pub lines_in : (s : Bytes) (at : ℕ) → at ≤ length s → lines_from s at ≡ split_at 10 (drop at s)
unfolding lines_from
lines_in s at h = rw (le-leb at (length s) h)

pub lines_out : (s : Bytes) (at : ℕ) → length s < at → lines_from s at ≡ []
unfolding lines_from
lines_out s at h = rw (lt-leb at (length s) h)

-- the line at a place, and those behind it
pub lines_cut : (s : Bytes) (at to : ℕ) → to ≡ at + length (take_while in_line (drop at s)) → split_at 10 (drop at s) ≡ take_while in_line (drop at s) ∷ lines_from s (to + 1)
lines_cut s at to g = rw (split_while in_line 10 lf_ends (drop at s), ← scan_rest in_line s at to g) (go (ltb to (length s)) refl)
  where
    go : (u : Bool) → ltb to (length s) ≡ u → on_first (take_while in_line (drop at s)) (split_at 10 (drop to s)) ≡ take_while in_line (drop at s) ∷ lines_from s (to + 1)
    go true e =
        let l = ltb-true to (length s) e in
        rw (lines_in s (to + 1) (omega arith), add-one, drop-cons s to 0 l, line_stops s at to g l, on_first_here 10 (take_while in_line (drop at s)) (drop (suc to) s))
    go false e =
        let l = ltb-false to (length s) e in
        rw (lines_out s (to + 1) (omega arith), drop_of_length-le s l, on_first_end 10 (take_while in_line (drop at s)))

-- where an empty line finds nothing, the end of the table does not matter
pub lines_of : {A : Type 0} (f : List Bytes → A) → f (split_at 10 []) ≡ f [] → (s : Bytes) (at : ℕ) → f (lines_from s at) ≡ f (split_at 10 (drop at s))
lines_of f done s at = go (ltb (length s) at) refl
  where
    go : (u : Bool) → ltb (length s) at ≡ u → f (lines_from s at) ≡ f (split_at 10 (drop at s))
    go true e =
        let l = ltb-true (length s) at e in
        let k : length s ≤ at = omega arith in
        rw (lines_out s at l, drop_of_length-le s k, done)
    go false e = rw (lines_in s at (ltb-false (length s) at e))

-- any finding f of lines that goes line by line
module _ {A : Type 0} (f : List Bytes → A) (one : Bytes → A) (op : A → A → A) (step : (l : Bytes) (ls : List Bytes) → f (l ∷ ls) ≡ op (one (content l)) (f ls)) (done : f (split_at 10 []) ≡ f [])
    (s : Bytes) (at to : ℕ) (g : to ≡ at + length (take_while in_line (drop at s))) where
  pub lines_on : f (split_at 10 (drop at s)) ≡ op (one (take_while in_content (drop at s))) (f (split_at 10 (drop (to + 1) s)))
  lines_on = rw (lines_cut s at to g, ← content_is (drop at s), ← lines_of f done s (to + 1)) (step (take_while in_line (drop at s)) (lines_from s (to + 1)))

pub lines_at : (host : List Bytes) (s : Bytes) (at to : ℕ) → to ≡ at + length (take_while in_line (drop at s))
    → best_of host (read_lines (split_at 10 (drop at s))) ≡ join_best (best_of host (read_line (take_while in_content (drop at s)))) (best_of host (read_lines (split_at 10 (drop (to + 1) s))))
lines_at host = lines_on (λ ls. best_of host (read_lines ls)) (λ l. best_of host (read_line l)) join_best (lines_step host) (none_left host)

-- where the next line begins, in two scans
pub next_line : (s : Bytes) (at to k : ℕ) → to ≡ at + length (take_while in_content (drop at s)) → k ≡ to + length (take_while in_line (drop to s)) → k ≡ at + length (take_while in_line (drop at s))
next_line s at to k g i = i ∙ rw (scan_rest in_content s at to g) (omega (arith, g, while_two in_content in_line in_both (drop at s)))

-- ---- the loop

pub record Pass (host table : Bytes) (goal : Option Sizes) (s : Sizes) (at : ℕ) : Type 0 where
  pub is : join_best (Some s) (best_of (labels host) (read_lines (split_at 10 (drop at table)))) ≡ goal

pub pass_starts : (host table : Bytes) → length table ≤ 1048576 → Pass host table (best_of (labels host) (read_table table)) (sizes_of 0 0) 0
unfolding read_table
pass_starts host table l = record { is = rw (le-leb (length table) 1048576 l) (join_zero (best_of (labels host) (read_lines (split_at 10 table)))) }

join_none : (s : Sizes) → join_best (Some s) (sized 0 0) ≡ Some s
unfolding join_best
join_none s = ap₂ sized (omega arith) (omega arith)

module _ {host table : Bytes} {goal : Option Sizes} {s : Sizes} {at : ℕ} (P : Pass host table goal s at) where
  pub pass_ends : length table ≤ at → Some s ≡ goal
  pass_ends l = sym (rw (drop_of_length-le table l, none_left (labels host), none_sizes (labels host)) (join_none s)) ∙ P.is

  module _ {to : ℕ} (g : to ≡ at + length (take_while in_content (drop at table))) where
    module _ {q : Option Sizes} (t : q ≡ best_of (labels host) (read_line (take (to - at) (drop at table)))) where
      found : best_of (labels host) (read_line (take_while in_content (drop at table))) ≡ q
      found = sym (t ∙ rw (scan_part in_content table at to g))

      pass_on : {k : ℕ} → k ≡ to + length (take_while in_line (drop to table)) → join_best (Some s) (join_best q (best_of (labels host) (read_lines (split_at 10 (drop (k + 1) table))))) ≡ goal
      pass_on {k} i =
          let j = next_line table at to k g i in
          rw (← found, ← lines_at (labels host) table at k j) P.is

      pub pass_bad : q ≡ None → None ≡ goal
      pass_bad b = sym (joined_bad q b) ∙ pass_on refl
        where
          joined_bad : (q : Option Sizes) → q ≡ None → join_best (Some s) (join_best q (best_of (labels host) (read_lines (split_at 10 (drop (to + length (take_while in_line (drop to table)) + 1) table))))) ≡ None
          joined_bad q b = unfold join_best in (rw b)

      module _ {u : Sizes} {k : ℕ} (b : q ≡ Some u) (i : k ≡ to + length (take_while in_line (drop to table))) where
        pub pass_more : {x : Sizes} → x ≡ joined s u → Pass host table goal x (k + 1)
        pass_more c = record { is = rw (c, ← join_join, ← b) (pass_on i) }

pub pass_fits : (table : Bytes) {at to k : ℕ} → k ≡ to + length (take_while in_line (drop to table)) → to ≡ at + length (take_while in_content (drop at table)) → at < length table → length table ≤ 1048576 → Fits w64 (k + 1)
pass_fits table {at} {to} {k} i g l m =
    let a : to ≤ length table = scan_to in_content table at to g (omega arith) in
    let b : k ≤ length table = scan_to in_line table to k i a in
    record { fits = omega arith }
