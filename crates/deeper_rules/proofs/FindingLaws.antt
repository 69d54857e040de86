-- The lines of a span: what they find for a host. Assumes nothing.
use mathlib.Core.Path.{◌≡◌, refl, sym, ap, ◌∙◌}
use mathlib.Core.Bool.{false}
use mathlib.Core.List.{List}
use Rattle.std.specs.Prelude.{Option, None, Some}
use Prim.Native.Nat.{ℕ, ◌+◌, ◌-◌, ◌≤◌, ◌<◌}
use native.Mathlib.Omega.{arith}
use lib.ListN.{length, take, drop}
use borrow.Author.Rules.{rules}
use Rattle.ascii.specs.Ascii.{Bytes, is_none, take_while}
use Rattle.ascii.proofs.Scan.{scan_to}
use Rattle.hosts.specs.Host.{labels}
use Rattle.hosts.proofs.Ends.{true_false}
use Rattle.suffix.specs.Suffix.{Rule, read_table}
use Rattle.suffix.specs.code.Pass.{sizes_of, best_of, joined, read_line, in_line, in_content}
use Rattle.suffix.specs.code.Depth.{Good}
use Rattle.suffix.specs.declared.Sizes.{Sizes}
use Rattle.suffix.proofs.Answers.{bad_table}
use Rattle.suffix.proofs.Passes.{Pass, pass_starts, pass_ends, pass_bad, pass_more}
use Rattle.suffix.proofs.Climbs.{table_short}
use Rattle.label_lookup.specs.code.Answer.{depths_of}
use Rattle.label_lookup.specs.code.Finds.{FindsLine}
use Rattle.label_lookup.specs.declared.Depths.{Depths}
use Rattle.label_lookup.proofs.LookLaws.{to_best}
use Rattle.deeper_rules.specs.code.Findings.{FindsTable}

-- ---- the lines of a span

pub record Looking (host s : Bytes) (f : Sizes) (at : ℕ) : Type 0 where
  pub inside : at ≤ length s
  pub is : is_none (read_table s) ≡ false → Pass host s (best_of (labels host) (read_table s)) f at

pub looking_starts : (host s : Bytes) {f : Sizes} → f ≡ sizes_of 0 0 → Looking host s f 0
looking_starts host s e = record { inside = omega arith; is = λ g. rw e (pass_starts host s (table_short s g)) }

module _ {host s : Bytes} {f : Sizes} {at to : ℕ} (L : Looking host s f at) (g : to ≡ at + length (take_while in_content (drop at s))) where
  pub line_to : to ≤ length s
  line_to = scan_to in_content s at to g L.inside

  good_line : is_none (read_table s) ≡ false → Good (take (to - at) (drop at s))
  good_line a = record { is = go (read_line (take (to - at) (drop at s))) refl }
    where
      go : (o : Option (List Rule)) → read_line (take (to - at) (drop at s)) ≡ o → is_none o ≡ false
      go None t = true_false (sym (ap is_none (bad_table s host (pass_bad (L.is a) g {q = best_of (labels host) (read_line (take (to - at) (drop at s)))} refl (rw t bad)))) ∙ a)
        where
          bad : best_of (labels host) None ≡ None
          bad = unfold best_of in refl
      go (Some rs) t = refl

  module _ {l x : Sizes} (F : FindsLine host (take (to - at) (drop at s)) l) {k : ℕ} (i : k ≡ to + length (take_while in_line (drop to s))) (u : x ≡ joined f l) where
    next : is_none (read_table s) ≡ false → Pass host s (best_of (labels host) (read_table s)) x (k + 1)
    next a = pass_more (L.is a) g (F.is (good_line a)) refl i u

    pub looking_more : k < length s → Looking host s x (k + 1)
    looking_more h = record { inside = omega arith; is = next }

    ends : length s ≤ k → FindsTable host s x
    ends h = record { is = λ a. pass_ends (next a) (omega arith) }

-- its premises from the last to the first, so that each fixes the next one's unknowns
pub looking_ends : {host s : Bytes} {f l x : Sizes} {at to k : ℕ} → x ≡ joined f l → length s ≤ k → k ≡ to + length (take_while in_line (drop to s))
    → FindsLine host (take (to - at) (drop at s)) l → to ≡ at + length (take_while in_content (drop at s)) → Looking host s f at → FindsTable host s x
looking_ends u h i F g L = ends L g F i u h

-- ---- the pass over a table

module _ (host s : Bytes) {q : Option Depths} (t : q ≡ depths_of (labels host) (read_table s)) where
  pub pass_wrong : {r : Sizes} → q ≡ None → FindsTable host s r
  pass_wrong w = record { is = λ a. go (read_table s) a (sym w ∙ t) }
    where
      go : {A : Type 0} (o : Option (List Rule)) → is_none o ≡ false → None ≡ depths_of (labels host) o → A
      go None a e = true_false a
      go (Some rs) a e = unfold depths_of in (let z : ◌≡◌ {A = ℕ} 0 1 = cc in absurd (omega arith))

  pub pass_found : {f : Depths} → q ≡ Some f → FindsTable host s f.sizes
  pass_found {f} w = record { is = λ a. to_best s host f (read_table s) (sym w ∙ t) }

-- a set for each function, and for some ways out alone: a search that fails then tries every way
pub ruleset pass_laws = (pass_wrong, pass_found, rules)

pub ruleset lines_laws = (looking_starts, line_to, looking_more, looking_ends, rules)

pub ruleset looked = (looking_ends)

pub ruleset looks_on = (looking_more)
