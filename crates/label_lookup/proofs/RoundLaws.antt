-- The pass over the table: sizes and depth so far. Assumes nothing.
use mathlib.Core.Bool.{Bool, true, false}
use mathlib.Core.List.{List, []}
use Rattle.std.specs.Prelude.{Option, None, Some}
use mathlib.Core.Path.{◌≡◌, refl, sym, ap, ap₂, ◌∙◌}
use Prim.Native.Nat.{ℕ, suc, ◌+◌, ◌-◌, ◌≤◌, ◌<◌, max}
use native.Mathlib.Omega.{arith}
use lib.ListN.{length, take, drop, drop_of_length-le}
use borrow.Author.Tests.{lt-leb}
use Rattle.ascii.specs.Ascii.{Bytes, filter_by, take_while, last_of, split_at}
use Rattle.ascii.specs.declared.Span.{Span}
use Rattle.ascii.proofs.Scan.{scan_to, scan_from, scan_part}
use Rattle.hosts.specs.Host.{labels}
use Rattle.hosts.specs.code.Place.{Stands}
use Rattle.suffix.specs.Suffix.{Rule, read_lines, read_table, matches}
use Rattle.suffix.specs.code.Depth.{line_depth, lines_depth, is_good}
use Rattle.suffix.specs.code.Idle.{Passes, Shallow, Shallows}
use Rattle.suffix.specs.code.Pass.{sizes_of, sized, sizes, best_of, joined, join_best, read_line, in_line, in_content}
use Rattle.suffix.specs.declared.Sizes.{Sizes}
use Rattle.suffix.proofs.Climbs.{lines_rules, lines_more, lines_done, table_read}
use Rattle.suffix.proofs.IdleLines.{shallow_depth}
use Rattle.suffix.proofs.Passes.{join_join, pass_fits, lines_on, next_line, Pass, pass_starts, pass_ends, pass_bad, pass_more}
use Rattle.label_lookup.specs.code.Answer.{depths, depths_of, deepened}
use Rattle.label_lookup.specs.code.Finds.{FindsLine}
use Rattle.label_lookup.specs.code.Search.{Behind, NextLine, no_line, one_line}
use Rattle.label_lookup.specs.declared.Depths.{Depths}
use Rattle.label_lookup.proofs.FindLaws.{told_good, told_bad}
use mir.Syntax.{w64}
use mir.Val.{Fits}

-- ---- sizes and depth

lines_none : (hl : List Bytes) → lines_depth hl [] ≡ 0
unfolding lines_depth
lines_none hl = refl

pub record Deeps (host table : Bytes) (s : Sizes) (d at : ℕ) : Type 0 where
  pub pass : Pass host table (best_of (labels host) (read_table table)) s at
  pub depth : max d (lines_depth (labels host) (split_at 10 (drop at table))) ≡ lines_depth (labels host) (split_at 10 table)

pub deeps_long : (host table : Bytes) {n : ℕ} → n < length table → 1048576 ≤ n → None ≡ depths_of (labels host) (read_table table)
unfolding depths_of read_table
deeps_long host table l m = rw (lt-leb (length table) 1048576 (omega arith))

pub deeps_starts : (host table : Bytes) → length table ≤ 1048576 → Deeps host table (sizes_of 0 0) 0 0
deeps_starts host table l = record { pass = pass_starts host table l; depth = omega arith }

abbrev sizes_in : Option Sizes → Sizes
sizes_in None = sizes_of 0 0
sizes_in (Some s) = s

from_best : (host table : Bytes) → (o : Option (List Rule)) → read_lines (split_at 10 table) ≡ o → (s : Sizes) (d : ℕ) → d ≡ lines_depth (labels host) (split_at 10 table)
    → Some s ≡ best_of (labels host) o → Some (depths s d) ≡ depths_of (labels host) o
unfolding best_of depths_of
from_best host table None u s d f g = let z : ◌≡◌ {A = ℕ} 0 1 = cc in absurd (omega arith)
from_best host table (Some rs) u s d f g =
    let x : s ≡ sizes (filter_by (matches (labels host)) rs) = ap sizes_in g in
    rw (x, f, lines_rules (labels host) (split_at 10 table) rs u)

pub none_best : (hl : List Bytes) (o : Option (List Rule)) → None ≡ best_of hl o → None ≡ depths_of hl o
unfolding best_of depths_of
none_best hl None e = refl
none_best hl (Some rs) e = let z : ◌≡◌ {A = ℕ} 0 1 = cc in absurd (omega arith)

module _ {host table : Bytes} {s : Sizes} {d at : ℕ} (D : Deeps host table s d at) where
  pub deeps_ends : length table ≤ 1048576 → length table ≤ at → Some (depths s d) ≡ depths_of (labels host) (read_table table)
  deeps_ends h l =
      let f : d ≡ lines_depth (labels host) (split_at 10 table) =
      sym (rw (drop_of_length-le table l, lines_done (labels host), lines_none (labels host)) (plain d)) ∙ D.depth in
      from_best host table (read_table table) (table_read table h) s d f (pass_ends D.pass l)
    where
      plain : (d : ℕ) → max d 0 ≡ d
      plain d = omega arith

  module _ {to : ℕ} (g : to ≡ at + length (take_while in_content (drop at table))) where
    module _ {q : Option Sizes} (t : q ≡ best_of (labels host) (read_line (take (to - at) (drop at table)))) where
      pub deeps_bad : q ≡ None → None ≡ depths_of (labels host) (read_table table)
      deeps_bad b = none_best (labels host) (read_table table) (pass_bad D.pass g t b)

      pub deeps_more : {u x : Sizes} {k p z : ℕ} → q ≡ Some u → k ≡ to + length (take_while in_line (drop to table)) → x ≡ joined s u
          → z ≡ max d p → p ≡ line_depth (labels host) (read_line (take (to - at) (drop at table))) → Deeps host table x z (k + 1)
      deeps_more {k = k} {p = p} {z = z} b i c w o =
          let r : p ≡ line_depth (labels host) (read_line (take_while in_content (drop at table))) = o ∙ rw (scan_part in_content table at to g) in
          let v = lines_on (lines_depth (labels host)) (λ l. line_depth (labels host) (read_line l)) max (lines_more (labels host)) (lines_done (labels host)) table at k (next_line table at to k g i) in
          record { pass = pass_more D.pass g t b i c; depth = omega (arith, w, r, v, D.depth) }

-- ---- line after line

join_parts : (s : Sizes) (b : Option Sizes) → join_best (Some s) b ≡ join_best (sized s.exception 0) (join_best (sized 0 s.most) b)
join_parts s b = sym (join_join (sizes_of s.exception 0) (sizes_of 0 s.most) b ∙ ap₂ (λ (x y : ℕ). join_best (sized x y) b) (no_more s.exception) (no_less s.most))
  where
    no_more : (n : ℕ) → max n 0 ≡ n
    no_more n = omega arith

    no_less : (n : ℕ) → max 0 n ≡ n
    no_less n = omega arith

shallow_deeps : {host table : Bytes} {s : Sizes} {d at to : ℕ} → Deeps host table s d at → Shallow host table s.most d at to → Deeps host table s d to
shallow_deeps {host} {table} {s} {d} {at} {to} D I = record {
  pass = record {
    is = join_parts s (best_of (labels host) (read_lines (split_at 10 (drop to table)))) ∙ ap (join_best (sized s.exception 0)) (sym I.best)
        ∙ sym (join_parts s (best_of (labels host) (read_lines (split_at 10 (drop at table))))) ∙ D.pass.is;
  };
  depth = sym (shallow_depth I) ∙ D.depth;
}

pub record Round (host table : Bytes) (s : Sizes) (d start at : ℕ) : Type 0 where
  pub lent : Passes host table d start at
  pub deeps : Deeps host table s d at

pub round_starts : {host table : Bytes} {s : Sizes} {last : ℕ} → s ≡ sizes_of 0 0 → Passes host table 0 last 0 → Round host table s 0 last 0
round_starts {host} {table} e P = rw e (record { lent = P; deeps = deeps_starts host table P.short })

-- one line
pub line_wrong : (host w : Bytes) (c : ℕ) {b : Bool} → b ≡ is_good w → b ≡ false → None ≡ deepened c (depths_of (labels host) (read_line w))
unfolding deepened depths_of
line_wrong host w c e f = rw (told_bad w e f)

pub line_found : (host w : Bytes) (c : ℕ) {b : Bool} {s : Sizes} {d : ℕ} → b ≡ is_good w → b ≡ true → FindsLine host w s → d ≡ max c (line_depth (labels host) (read_line w))
    → Some (depths s d) ≡ deepened c (depths_of (labels host) (read_line w))
line_found host w c {s = s} {d = d} e f F g = go (read_line w) (F.is (told_good w e f)) g
  where
    go : (o : Option (List Rule)) → Some s ≡ best_of (labels host) o → d ≡ max c (line_depth (labels host) o) → Some (depths s d) ≡ deepened c (depths_of (labels host) o)
    go None t g = unfold best_of in (let z : ◌≡◌ {A = ℕ} 0 1 = cc in absurd (omega arith))
    go (Some rs) t g = unfold best_of depths_of deepened line_depth in (let x : s ≡ sizes (filter_by (matches (labels host)) rs) = ap sizes_in t in rw (x, g))

abbrev pub depth_in : Option Depths → ℕ
depth_in None = 0
depth_in (Some f) = f.depth

abbrev pub best_in : Option Depths → Option Sizes
best_in None = None
best_in (Some f) = Some f.sizes

found_depth : (hl : List Bytes) (o : Option (List Rule)) (c : ℕ) (f : Depths) → Some f ≡ deepened c (depths_of hl o) → f.depth ≡ max c (line_depth hl o)
unfolding depths_of deepened line_depth
found_depth hl None c f e = let z : ◌≡◌ {A = ℕ} 0 1 = cc in absurd (omega arith)
found_depth hl (Some rs) c f e = ap depth_in e

found_best : (hl : List Bytes) (o : Option (List Rule)) (c : ℕ) (f : Depths) → Some f ≡ deepened c (depths_of hl o) → best_of hl o ≡ Some f.sizes
unfolding depths_of deepened best_of
found_best hl None c f e = let z : ◌≡◌ {A = ℕ} 0 1 = cc in absurd (omega arith)
found_best hl (Some rs) c f e = sym (ap best_in e)

wrong_best : (hl : List Bytes) (o : Option (List Rule)) (c : ℕ) → None ≡ deepened c (depths_of hl o) → best_of hl o ≡ None
unfolding depths_of deepened best_of
wrong_best hl None c f = refl
wrong_best hl (Some rs) c f = let z : ◌≡◌ {A = ℕ} 0 1 = cc in absurd (omega arith)

twice : (c d n : ℕ) {z : ℕ} → z ≡ max c d → d ≡ max c n → z ≡ max c n
twice c d n w p = omega (arith, w, p)

-- ---- the next line

module _ {host table : Bytes} {m d last at from : ℕ} (I : Shallows host table m d last at from) where
  pub next_none : length table ≤ from → NextLine host table m d last at None
  next_none h = no_line h I

  pub next_some : {to : ℕ} → from < length table → to ≡ from + length (take_while in_content (drop from table)) → NextLine host table m d last at (Some (record { from = from; to = to }))
  next_some h g = one_line (record { passed = I; inside = h; part_is = g })

pub its_line : {host table : Bytes} {m d last at : ℕ} {q : Option Span} {x : Span} → NextLine host table m d last at q → q ≡ Some x → Behind host table m d last at x
its_line (no_line h I) e = let z : ◌≡◌ {A = ℕ} 0 1 = cc in absurd (omega arith)
its_line {x} (one_line {part = y} B) e = let z : y ≡ x = cc in rw z at B

-- where the line ends, behind which the next line is looked for
module _ {host table : Bytes} {m d last at : ℕ} {x : Span} (B : Behind host table m d last at x) {k : ℕ} (E : k ≡ x.to + length (take_while in_line (drop x.to table))) where
  pub line_fits : length table ≤ 1048576 → Fits w64 (k + 1)
  line_fits h = pass_fits table E B.part_is B.inside h

  part_end : x.to ≤ length table
  part_end = scan_to in_content table x.from x.to B.part_is (omega (arith, B.inside))

  pub next_inside : k + 1 ≤ length table + 1
  next_inside = omega (arith, scan_to in_line table x.to k E part_end)

  pub next_onward : at ≤ k
  next_onward = omega (arith, B.passed.onward, scan_from in_content table x.from x.to B.part_is, scan_from in_line table x.to k E)

  pub next_smaller : length table + 1 - (k + 1) < length table + 1 - at
  next_smaller = omega (arith, next_inside, next_onward)

module _ {host table : Bytes} {s : Sizes} {c start at : ℕ} (R : Round host table s c start at) {q : Option Span} (C : NextLine host table s.most c start at q) where
  pub round_ends : q ≡ None → Some (depths s c) ≡ depths_of (labels host) (read_table table)
  round_ends e = go C e
    where
      go : {q : Option Span} → NextLine host table s.most c start at q → q ≡ None → Some (depths s c) ≡ depths_of (labels host) (read_table table)
      go (no_line h I) e = deeps_ends (shallow_deeps R.deeps (I.is R.lent)) R.lent.short h
      go (one_line B) e = let z : ◌≡◌ {A = ℕ} 0 1 = cc in absurd (omega arith)

  module _ {x : Span} (f : q ≡ Some x) where
    B : Behind host table s.most c start at x
    B = its_line C f

    module _ {k : ℕ} (E : k ≡ x.to + length (take_while in_line (drop x.to table))) where
      pub round_fits : Fits w64 (k + 1)
      round_fits = line_fits B E R.lent.short

      pub round_smaller : {j : ℕ} → j ≡ k + 1 → length table + 1 - j < length table + 1 - at
      round_smaller i = rw i (next_smaller B E)

    there : Deeps host table s c x.from
    there = shallow_deeps R.deeps (B.passed.is R.lent)

    module _ {w : Bytes} (e : w ≡ take (x.to - x.from) (drop x.from table)) {o : Option Depths} (t : o ≡ deepened c (depths_of (labels host) (read_line w))) where
      its : o ≡ deepened c (depths_of (labels host) (read_line (take (x.to - x.from) (drop x.from table))))
      its = t ∙ ap (λ (v : Bytes). deepened c (depths_of (labels host) (read_line v))) e

      pub round_wrong : o ≡ None → None ≡ depths_of (labels host) (read_table table)
      round_wrong n = deeps_bad there B.part_is {q = best_of (labels host) (read_line (take (x.to - x.from) (drop x.from table)))} refl (wrong_best (labels host) (read_line (take (x.to - x.from) (drop x.from table))) c (sym n ∙ its))

      module _ {k : ℕ} (E : k ≡ x.to + length (take_while in_line (drop x.to table))) where
        pub round_more : {f : Depths} {y : Sizes} {z r : ℕ} → o ≡ Some f → y ≡ joined s f.sizes → z ≡ max c f.depth → Stands (last_of (suc (max c f.depth)) (labels host)) host r → {j : ℕ} → j ≡ k + 1 → Round host table y z r j
        round_more {f} {y} {z} n u v S i =
            let p = read_line (take (x.to - x.from) (drop x.from table)) in
            let d : f.depth ≡ max c (line_depth (labels host) p) = found_depth (labels host) p c f (sym n ∙ its) in
            let D = deeps_more there B.part_is {q = best_of (labels host) p} refl (found_best (labels host) p c f (sym n ∙ its)) E u (twice c f.depth (line_depth (labels host) p) v d) refl in
            record { lent = record { stands = rw v S; inside = rw i (next_inside B E); short = R.lent.short }; deeps = rw (sym i) at D }
