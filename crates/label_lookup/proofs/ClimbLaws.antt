-- How many of a host's last labels a good line goes deeper than. Assumes nothing.
use mathlib.Core.Path.{◌≡◌, refl, sym, ap, ◌∙◌}
use mathlib.Core.Bool.{Bool, true, false}
use mathlib.Core.List.{List, [], ◌∷◌}
use Rattle.std.specs.Prelude.{Option, None, Some}
use Prim.Native.Nat.{ℕ, suc, ◌+◌, ◌-◌, ◌≤◌, ◌<◌, max}
use native.Mathlib.Omega.{arith}
use lib.ListN.{length, take, drop}
use lib.Dec.{leb, ltb}
use borrow.Author.Rules.{rules}
use borrow.Author.Tests.{leb-true, leb-false, ltb-true, ltb-false}
use Rattle.ascii.specs.Ascii.{Bytes, is_none, last_of}
use Rattle.hosts.specs.Host.{labels}
use Rattle.hosts.specs.code.Place.{Stands}
use Rattle.hosts.proofs.Ends.{true_false}
use Rattle.hosts.proofs.Places.{rest_whole}
use Rattle.suffix.specs.Suffix.{Rule}
use Rattle.suffix.specs.code.Pass.{read_line}
use Rattle.suffix.specs.code.Deeper.{deeper_in}
use Rattle.suffix.specs.code.Depth.{deepest, line_depth, Good, Past}
use Rattle.suffix.proofs.Climbs.{depth_le, any_depth}
use Rattle.suffix.proofs.Speed.{last_names}

deepest_le : (hl : List Bytes) (rules : List Rule) → deepest hl rules ≤ length hl
unfolding deepest
deepest_le hl [] = omega arith
deepest_le hl (r ∷ rules) = omega (arith, depth_le hl r, deepest_le hl rules)

line_le : (hl : List Bytes) (o : Option (List Rule)) → line_depth hl o ≤ length hl
unfolding line_depth
line_le hl None = omega arith
line_le hl (Some rules) = deepest_le hl rules

leb_line : (k : ℕ) (hl : List Bytes) (o : Option (List Rule)) → is_none o ≡ false → 1 ≤ k → k ≤ length hl → deeper_in (last_of k hl) o ≡ leb k (line_depth hl o)
unfolding deeper_in line_depth
leb_line k hl None g h l = true_false g
leb_line k hl (Some rules) g h l = any_depth k hl rules h l

-- from the depth d on
pub record Climb (host w : Bytes) (d k : ℕ) : Type 0 where
  pub from : d ≤ k
  pub up : k ≤ max d (line_depth (labels host) (read_line w))

module _ {host w : Bytes} {d k : ℕ} (C : Climb host w d k) where
  pub climb_ends : {n x : ℕ} → x ≡ max d n → n ≡ length (labels host) → n ≤ k → x ≡ max d (line_depth (labels host) (read_line w))
  climb_ends i e l = omega (arith, i, C.from, C.up, line_le (labels host) (read_line w))

  module _ {n at : ℕ} {b : Bool} (e : n ≡ length (labels host)) (l : k < n) (S : Stands (last_of (k + 1) (labels host)) host at) (G : Good w)
      (t : b ≡ deeper_in (labels (take (length host - at) (drop at host))) (read_line w)) where
    tested : b ≡ leb (k + 1) (line_depth (labels host) (read_line w))
    tested = t ∙ ap (λ (m : List Bytes). deeper_in m (read_line w)) (ap labels (rest_whole host at ∙ S.is) ∙ last_names host (k + 1) (omega arith))
        ∙ leb_line (k + 1) (labels host) (read_line w) G.is (omega arith) (omega arith)

    pub climb_more : b ≡ true → Climb host w d (k + 1)
    climb_more f = record { from = omega (arith, C.from); up = omega (arith, leb-true (k + 1) (line_depth (labels host) (read_line w)) (sym tested ∙ f)) }

    pub climb_stops : b ≡ false → k ≡ max d (line_depth (labels host) (read_line w))
    climb_stops f = omega (arith, C.from, C.up, leb-false (k + 1) (line_depth (labels host) (read_line w)) (sym tested ∙ f))

-- a line that does not go deeper than one label more than d
pub shallow_good : (host tail w : Bytes) (d : ℕ) {b : Bool} → Past host tail d → Good w → b ≡ deeper_in (labels tail) (read_line w) → b ≡ false → d ≡ max d (line_depth (labels host) (read_line w))
shallow_good host tail w d T G t f = go (ltb d (length (labels host))) refl
  where
    go : (u : Bool) → ltb d (length (labels host)) ≡ u → d ≡ max d (line_depth (labels host) (read_line w))
    go true l =
        let m = leb_line (suc d) (labels host) (read_line w) G.is (omega arith) (ltb-true d (length (labels host)) l) in
        let x : leb (suc d) (line_depth (labels host) (read_line w)) ≡ false = sym m ∙ ap (λ (ls : List Bytes). deeper_in ls (read_line w)) (sym T.is) ∙ sym t ∙ f in
        omega (arith, leb-false (suc d) (line_depth (labels host) (read_line w)) x)
    go false l = omega (arith, ltb-false d (length (labels host)) l, line_le (labels host) (read_line w))

pub ruleset climb_laws = (climb_ends, climb_more, climb_stops, shallow_good, rules)
