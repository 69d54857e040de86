-- The end of a line, and of what is read of it. Assumes nothing.
use mathlib.Core.Path.{◌≡◌, refl, sym, ap, ◌∙◌}
use mathlib.Core.Bool.{Bool, true, false}
use Prim.Native.Nat.{ℕ, ◌+◌, ◌≤◌, ◌<◌}
use native.Mathlib.Omega.{arith}
use lib.ListN.{length, get_or, drop}
use lib.Dec.{eqb, ltb}
use borrow.Author.Rules.{rules}
use borrow.Author.Tests.{eqb-true, eqb-false, lt-ltb, le-ltb, ltb-true, ltb-false}
use Rattle.ascii.specs.Ascii.{Bytes, take_while}
use Rattle.ascii.proofs.Scan.{scan_rest}
use Rattle.hosts.proofs.Shapes.{while_same}
use Rattle.suffix.specs.code.Pass.{in_line, in_content}
use Rattle.byte_search.specs.code.Ranges.{outside}
use Rattle.byte_search.proofs.RangeLaws.{SameEnd, end_starts, end_out, end_found, end_next}
use Rattle.suffix.proofs.Passes.{line_lf, line_other, content_other, content_high, while_two}

-- all bytes but the LF
outside_lf : (b : ℕ) → outside 10 10 b ≡ in_line b
outside_lf b = go (eqb b 10) refl
  where
    go : (u : Bool) → eqb b 10 ≡ u → outside 10 10 b ≡ in_line b
    go true e = let z = eqb-true b 10 e in unfold outside in (rw (le-ltb b 10 (omega arith), le-ltb 10 b (omega arith)) (line_lf b z))
    go false e = let n = eqb-false b 10 e in apart (ltb b 10) refl n
      where
        apart : (u : Bool) → ltb b 10 ≡ u → (b ≡ 10 → ⊥) → outside 10 10 b ≡ in_line b
        apart true u n = unfold outside in (rw u (line_other b n))
        apart false u n = let z = ltb-false b 10 u in unfold outside in (rw (u, lt-ltb 10 b (omega (arith, n))) (line_other b n))

pub line_is_range : (s : Bytes) (from lo hi : ℕ) {r : ℕ} → r ≡ from + length (take_while (outside lo hi) (drop from s)) → lo ≡ 10 → hi ≡ 10 → r ≡ from + length (take_while in_line (drop from s))
line_is_range s from lo hi e l h = e ∙ rw (l, h) (ap (λ (x : Bytes). from + length x) (while_same (outside 10 10) in_line outside_lf (drop from s)))

-- no blank, and no LF, is outside the range from the tab to the space
outside_content : (lo hi : ℕ) → lo ≤ 9 → 32 ≤ hi → (b : ℕ) → outside lo hi b ≡ true → in_content b ≡ true
outside_content lo hi l k b e = go (ltb b lo) refl
  where
    go : (u : Bool) → ltb b lo ≡ u → in_content b ≡ true
    go true u = let h = ltb-true b lo u in sym (content_other b (λ z. omega arith) (λ z. omega arith) (λ z. omega arith) (λ z. omega arith))
    go false u = let h = ltb-true hi b (unfold outside in (rw u at e)) in sym (content_high b (omega arith))

module _ (lo hi : ℕ) (s : Bytes) {from i j : ℕ} (g : j ≡ i + length (take_while (outside lo hi) (drop i s))) (l : lo ≤ 9) (k : 32 ≤ hi) where
  content_next : SameEnd in_content s from i → SameEnd in_content s from j
  content_next E = record { is = rw (scan_rest (outside lo hi) s i j g) (omega (arith, g, while_two (outside lo hi) in_content (outside_content lo hi l k) (drop i s), E.is)) }

module _ (lo hi : ℕ) (s : Bytes) {from j : ℕ} where
  pub content_starts : j ≡ from + length (take_while (outside lo hi) (drop from s)) → lo ≤ 9 → 32 ≤ hi → SameEnd in_content s from j
  content_starts g l k = content_next lo hi s g l k (end_starts in_content s from)

  pub content_more : {i : ℕ} {r : Bool} → SameEnd in_content s from i → j ≡ i + 1 + length (take_while (outside lo hi) (drop (i + 1) s)) → lo ≤ 9 → 32 ≤ hi → i < length s → r ≡ in_content (get_or s i 0) → r ≡ true
      → SameEnd in_content s from j
  content_more E g l k h t w = content_next lo hi s g l k (end_next E h t w)

-- sets in which no law leads back to itself: a search that fails tries every way
pub ruleset line_end_laws = (line_is_range, rules)

pub ruleset content_laws = (content_starts, content_more, end_out, end_found, rules)

pub ruleset content_first = (content_starts, rules)

pub ruleset content_turn = (content_more, rules)
