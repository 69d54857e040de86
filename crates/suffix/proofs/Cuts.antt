-- Lines and rules cut in two: what both parts read and find together. Assumes nothing.
use Rattle.std.specs.Prelude.{if◌then◌else◌, Option, None, Some}
use mathlib.Core.Path.{◌≡◌, refl, sym, ap, ◌∙◌}
use mathlib.Core.Bool.{Bool, true, false}
use mathlib.Core.List.{List, [], ◌∷◌, ◌++◌}
use Prim.Native.Nat.{ℕ, max}
use native.Mathlib.Omega.{arith}
use lib.Dec.{eqb}
use borrow.Author.Tests.{eq-eqb}
use Rattle.ascii.specs.Ascii.{Bytes, ◌>>=◌, join_head, split_at}
use Rattle.ascii.proofs.Split.{Parts, split_parts}
use Rattle.suffix.specs.Suffix.{Rule, content, is_skipped, read_rule, read_lines}
use Rattle.suffix.specs.code.Pass.{best_of, join_best, read_line}
use Rattle.suffix.specs.code.Depth.{deepest, lines_depth}
use Rattle.suffix.proofs.Passes.{lines_step, none_sizes, join_zero, join_assoc}

-- the lines of two texts with an LF between
pub split_both : (c : ℕ) (x y : Bytes) → split_at c (x ++ (c ∷ y)) ≡ split_at c x ++ split_at c y
unfolding split_at
split_both c [] y = rw (eq-eqb c c refl)
split_both c (b ∷ x) y = go (eqb b c) (split_parts c x) (split_both c x y)
  where
    go : (u : Bool) → Parts (split_at c x) → split_at c (x ++ (c ∷ y)) ≡ split_at c x ++ split_at c y
        → (if u then [] ∷ split_at c (x ++ (c ∷ y)) else join_head b (split_at c (x ++ (c ∷ y)))) ≡ (if u then [] ∷ split_at c x else join_head b (split_at c x)) ++ split_at c y
    go true P ih = ap (λ (ls : List Bytes). [] ∷ ls) ih
    go false P ih = unfold join_head in (rw (ih, P.is))

-- the rules of two lists of lines, the first one's first
pub read_both : (ks ls : List Bytes) → read_lines (ks ++ ls) ≡ (read_lines ks >>= λ xs. read_lines ls >>= λ ys. Some (xs ++ ys))
unfolding read_lines
read_both [] ls = go (read_lines ls)
  where
    go : (o : Option (List Rule)) → o ≡ (o >>= λ ys. Some ys)
    go None = refl
    go (Some ys) = refl
read_both (k ∷ ks) ls = go (is_skipped (content k)) (read_rule (content k)) (read_lines ks) (read_lines ls) (read_both ks ls)
  where
    go : (u : Bool) (r : Option Rule) (o p : Option (List Rule)) → read_lines (ks ++ ls) ≡ (o >>= λ xs. p >>= λ ys. Some (xs ++ ys))
        → (if u then read_lines (ks ++ ls) else (r >>= λ r. read_lines (ks ++ ls) >>= λ rs. Some (r ∷ rs)))
        ≡ ((if u then o else (r >>= λ r. o >>= λ rs. Some (r ∷ rs))) >>= λ xs. p >>= λ ys. Some (xs ++ ys))
    go true r o p ih = ih
    go false None o p ih = refl
    go false (Some r) None p ih = rw ih
    go false (Some r) (Some xs) None ih = rw ih
    go false (Some r) (Some xs) (Some ys) ih = rw ih

pub deepest_both : (hl : List Bytes) (xs ys : List Rule) → deepest hl (xs ++ ys) ≡ max (deepest hl xs) (deepest hl ys)
unfolding deepest
deepest_both hl [] ys = omega arith
deepest_both hl (r ∷ xs) ys = rw (deepest_both hl xs ys) (omega arith)

pub depth_both : (hl ks ls : List Bytes) → lines_depth hl (ks ++ ls) ≡ max (lines_depth hl ks) (lines_depth hl ls)
unfolding lines_depth
depth_both hl [] ls = omega arith
depth_both hl (k ∷ ks) ls = rw (depth_both hl ks ls) (omega arith)

-- what the lines of a table cut in two find is what both parts find, joined
pub best_both : (host ks ls : List Bytes) → best_of host (read_lines (ks ++ ls)) ≡ join_best (best_of host (read_lines ks)) (best_of host (read_lines ls))
best_both host [] ls = sym (rw (none_sizes host) (join_zero (best_of host (read_lines ls))))
best_both host (k ∷ ks) ls =
    lines_step host k (ks ++ ls) ∙ rw (best_both host ks ls, lines_step host k ks) (sym (join_assoc (best_of host (read_line (content k))) (best_of host (read_lines ks)) (best_of host (read_lines ls))))
