-- Lines from one place of a table to another, that go no deeper than some labels of a host. Assumes nothing.
use Rattle.std.specs.Prelude.{if◌then◌else◌, Option, None, Some}
use mathlib.Core.Path.{◌≡◌, refl, sym, ap, ◌∙◌}
use mathlib.Core.Bool.{Bool, true, false}
use mathlib.Core.List.{List, [], ◌∷◌, ◌++◌, append_assoc}
use Prim.Native.Nat.{ℕ, ◌+◌, ◌≤◌}
use native.Mathlib.Omega.{arith}
use lib.ListN.{length, drop}
use Rattle.ascii.specs.Ascii.{Bytes, ◌>>=◌, is_none, take_while}
use Rattle.hosts.specs.Host.{labels}
use Rattle.suffix.specs.Suffix.{Rule, content, is_skipped, read_rule, read_lines}
use Rattle.suffix.specs.code.Pass.{one_rule, read_line, in_line, in_content}
use Rattle.suffix.specs.code.Depth.{deepest, line_depth, Good}
use Rattle.suffix.specs.code.Passed.{lines_from, Passed}
use Rattle.hosts.proofs.Ends.{true_false}
use Rattle.suffix.proofs.Passes.{content_is, lines_in, lines_cut}
use Rattle.suffix.proofs.Cuts.{read_both, deepest_both}

-- no line is passed
pub passed_none : (host table : Bytes) (at : ℕ) → Passed host table 0 at at
unfolding read_lines deepest
passed_none host table at = record { lines = []; rules = []; are = refl; read = refl; depth = omega arith }

pub passed_on : {host table : Bytes} {d from at to : ℕ} → Passed host table d from at → Passed host table d at to → Passed host table d from to
passed_on {host} {table} {to = to} P Q = record {
  lines = P.lines ++ Q.lines;
  rules = P.rules ++ Q.rules;
  are = P.are ∙ ap (λ (ls : List Bytes). P.lines ++ ls) Q.are ∙ sym (append_assoc P.lines Q.lines (lines_from table to));
  read = read_both P.lines Q.lines ∙ rw (P.read, Q.read);
  depth = rw (deepest_both (labels host) P.rules Q.rules) (omega (arith, P.depth, Q.depth));
}

-- deeper than at most more labels
pub passed_more : {host table : Bytes} {c d from to : ℕ} → c ≤ d → Passed host table c from to → Passed host table d from to
passed_more h P = record { lines = P.lines; rules = P.rules; are = P.are; read = P.read; depth = omega (arith, P.depth) }

pub read_one : (l : Bytes) → read_lines (l ∷ []) ≡ read_line (content l)
unfolding read_lines read_line
read_one l = go (is_skipped (content l)) (read_rule (content l))
  where
    go : (u : Bool) (o : Option Rule) → (if u then Some [] else (o >>= λ r. Some (r ∷ []))) ≡ (if u then Some [] else one_rule o)
    go true o = refl
    go false None = unfold one_rule in refl
    go false (Some r) = unfold one_rule in refl

-- one good line
pub passed_line : (host table : Bytes) (d at to : ℕ) → at ≤ length table → to ≡ at + length (take_while in_line (drop at table)) → Good (take_while in_content (drop at table))
    → line_depth (labels host) (read_line (take_while in_content (drop at table))) ≤ d → Passed host table d at (to + 1)
passed_line host table d at to h g G l = go (read_line (take_while in_content (drop at table))) refl G.is l
  where
    go : (o : Option (List Rule)) → read_line (take_while in_content (drop at table)) ≡ o → is_none o ≡ false → line_depth (labels host) o ≤ d → Passed host table d at (to + 1)
    go None e n l = true_false n
    go (Some rules) e n l = record {
      lines = take_while in_line (drop at table) ∷ [];
      rules = rules;
      are = lines_in table at h ∙ lines_cut table at to g;
      read = read_one (take_while in_line (drop at table)) ∙ ap read_line (content_is (drop at table)) ∙ e;
      depth = deep l;
    }
      where
        deep : line_depth (labels host) (Some rules) ≤ d → deepest (labels host) rules ≤ d
        deep l = unfold line_depth in l
