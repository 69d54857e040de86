-- The search for lines that go deeper than a label, and the span of these. Assumes nothing.
use mathlib.Core.Path.{◌≡◌, refl, sym, ap, ◌∙◌}
use mathlib.Core.Bool.{Bool, true, false}
use mathlib.Core.List.{List, [], ◌∷◌, ◌++◌, append-nil}
use Rattle.std.specs.Prelude.{Option, None, Some}
use Prim.Native.Nat.{ℕ, suc, ◌+◌, ◌-◌, ◌≤◌, ◌<◌}
use native.Mathlib.Omega.{arith}
use native.Mathlib.Numerals.{add-one}
use lib.ListN.{length, get_or, take, drop, take-append-drop, drop_of_length-le, length-drop}
use lib.Seq.{drop-cons, drop-drop, take_all}
use lib.Dec.{ltb}
use borrow.Author.Rules.{rules}
use borrow.Author.Tests.{lt-leb, ltb-true, ltb-false, leb-false}
use Rattle.ascii.specs.Ascii.{Bytes, ◌>>=◌, is_none, any, take_while, last_of, split_at}
use Rattle.ascii.proofs.Scan.{scan_part, scan_from, scan_to}
use Rattle.hosts.specs.Host.{labels}
use Rattle.hosts.proofs.Ends.{true_false, labels_some}
use Rattle.suffix.specs.Suffix.{Rule, content, is_skipped, read_lines, read_table}
use Rattle.suffix.specs.code.Pass.{read_line, in_line, in_content}
use Rattle.suffix.specs.code.Deeper.{goes_deeper, deeper_in}
use Rattle.suffix.specs.code.Depth.{deepest, line_depth, Good}
use Rattle.suffix.specs.code.Idle.{Passes, Shallows}
use Rattle.suffix.specs.code.Passed.{lines_from, Passed}
use Rattle.hosts.proofs.Places.{rest_whole}
use Rattle.suffix.proofs.Passes.{content_is, next_line, line_stops, lines_in, lines_out, lines_cut}
use Rattle.suffix.proofs.Cuts.{split_both, read_both}
use Rattle.suffix.proofs.PassedLines.{passed_none, passed_more, passed_on, passed_line, read_one}
use Rattle.suffix.proofs.Climbs.{table_short, table_read, last_whole, any_depth}
use Rattle.suffix.proofs.IdleLines.{stands_whole}
use Rattle.label_lookup.specs.code.Span.{Spans}
use Rattle.ascii.specs.declared.Span.{Span}
use Rattle.label_lookup.specs.code.Search.{Seeks, Sought, Found, all_passed, stops_at, Behind, NextLine, no_line, one_line}
use Rattle.label_lookup.proofs.RoundLaws.{its_line, line_fits, next_inside, next_onward, next_smaller}
use mir.Val.{Fits}
use mir.Syntax.{w64}

-- ---- lines and places

-- the lines of a part that ends where a line ends, and those behind it
lines_both : (s : Bytes) (from to : ℕ) → from ≤ to → to ≤ length s → (to < length s → get_or s to 0 ≡ 10) → lines_from s from ≡ split_at 10 (take (to - from) (drop from s)) ++ lines_from s (to + 1)
lines_both s from to h l e = lines_in s from (omega arith) ∙ go (ltb to (length s)) refl
  where
    go : (u : Bool) → ltb to (length s) ≡ u → split_at 10 (drop from s) ≡ split_at 10 (take (to - from) (drop from s)) ++ lines_from s (to + 1)
    go true u =
        let m = ltb-true to (length s) u in
        let z : from + (to - from) ≡ to = omega arith in
        let c : drop from s ≡ take (to - from) (drop from s) ++ (10 ∷ drop (to + 1) s) =
        sym (take-append-drop (to - from) (drop from s)) ∙ rw (drop-drop (to - from) from s, z, drop-cons s to 0 m, e m, add-one) in
        ap (split_at 10) c ∙ rw (lines_in s (to + 1) (omega arith)) (split_both 10 (take (to - from) (drop from s)) (drop (to + 1) s))
    go false u =
        let m = ltb-false to (length s) u in
        rw (lines_out s (to + 1) (omega arith), take_all (to - from) (drop from s) (omega (arith, length-drop from s)), append-nil)

good_both : (ks ls : List Bytes) → is_none (read_lines (ks ++ ls)) ≡ false → (is_none (read_lines ks) ≡ false) × (is_none (read_lines ls) ≡ false)
good_both ks ls g = go (read_lines ks) (read_lines ls) (ap is_none (sym (read_both ks ls)) ∙ g)
  where
    go : (o p : Option (List Rule)) → is_none (o >>= λ xs. p >>= λ ys. Some (xs ++ ys)) ≡ false → (is_none o ≡ false) × (is_none p ≡ false)
    go None p g = true_false g
    go (Some xs) None g = true_false g
    go (Some xs) (Some ys) g = (refl, refl)

-- ---- one line after another

-- the search stands at a place
pub record Seeking (label table : Bytes) (n from at : ℕ) : Type 0 where
  pub lent : Seeks label table n from
  pub sought : Sought label table (n - 1) from at

pub seeking_starts : {label table : Bytes} {n from : ℕ} → Seeks label table n from → Seeking label table n from from
seeking_starts {label} {table} {n} {from} S = record { lent = S; sought = record { onward = omega arith; inside = S.inside; passed = passed_more (omega arith) (passed_none label table from) } }

module _ {label table : Bytes} {n from at : ℕ} (R : Seeking label table n from at) where
  pub seeking_short : length table ≤ 1048576
  seeking_short = R.lent.short

  seeking_lends : Passes label table (n - 1) 0 at
  seeking_lends = record { stands = stands_whole label (suc (n - 1)) (omega (arith, R.lent.labels_are)); inside = R.sought.inside; short = R.lent.short }

  -- the lines up to the one that may find something
  passed_to : {m to : ℕ} → Shallows label table m (n - 1) 0 at to → Sought label table (n - 1) from to
  passed_to I =
      let J = I.is seeking_lends in
      record { onward = omega (arith, R.sought.onward, J.onward); inside = J.inside; passed = passed_on R.sought.passed J.passed }

  -- a line without a deeper rule goes deeper than fewer labels
  shallow_line : (o : Option (List Rule)) → deeper_in (labels label) o ≡ false → line_depth (labels label) o ≤ n - 1
  unfolding deeper_in line_depth
  shallow_line None e = true_false e
  shallow_line (Some rules) e =
      let z : last_of n (labels label) ≡ labels label = rw R.lent.labels_are (last_whole (labels label)) in
      let a = any_depth n (labels label) rules R.lent.some (omega (arith, R.lent.labels_are)) in
      omega (arith, leb-false n (deepest (labels label) rules) (sym a ∙ ap (λ (ls : List Bytes). any (goes_deeper ls) rules) z ∙ e))

  module _ {m : ℕ} {q : Option Span} (C : NextLine label table m (n - 1) 0 at q) where
    pub seeking_ends : q ≡ None → Found label table (n - 1) from None
    seeking_ends e = go C e
      where
        go : {q : Option Span} → NextLine label table m (n - 1) 0 at q → q ≡ None → Found label table (n - 1) from None
        go (no_line h I) e = all_passed h (passed_to I)
        go (one_line B) e = let z : ◌≡◌ {A = ℕ} 0 1 = cc in absurd (omega arith)

    module _ {x : Span} (f : q ≡ Some x) where
      B : Behind label table m (n - 1) 0 at x
      B = its_line C f

      module _ {k : ℕ} (E : k ≡ x.to + length (take_while in_line (drop x.to table))) where
        pub seeking_fits : Fits w64 (k + 1)
        seeking_fits = line_fits B E R.lent.short

        pub seeking_smaller : {j : ℕ} → j ≡ k + 1 → length table + 1 - j < length table + 1 - at
        seeking_smaller i = rw i (next_smaller B E)

      there : Sought label table (n - 1) from x.from
      there = passed_to B.passed

      pub seeking_found : {k : ℕ} → k ≡ x.from → Found label table (n - 1) from (Some k)
      seeking_found e = rw e (stops_at B.inside there)

      line_good : Good (take_while in_content (drop x.from table))
      line_good =
          let P = there.passed in
          let k = x.from + length (take_while in_line (drop x.from table)) in
          let a = (good_both P.lines (lines_from table x.from) (ap (λ (ls : List Bytes). is_none (read_lines ls)) (sym P.are) ∙ R.lent.good)).1 in
          let c : lines_from table x.from ≡ (take_while in_line (drop x.from table) ∷ []) ++ lines_from table (k + 1) = lines_in table x.from (omega (arith, B.inside)) ∙ lines_cut table x.from k refl in
          let b = (good_both (take_while in_line (drop x.from table) ∷ []) (lines_from table (k + 1)) (ap (λ (ls : List Bytes). is_none (read_lines ls)) (sym c) ∙ a)).0 in
          record { is = ap is_none (sym (read_one (take_while in_line (drop x.from table)) ∙ ap read_line (content_is (drop x.from table)))) ∙ b }

      module _ {w : Bytes} (e : w ≡ take (x.to - x.from) (drop x.from table)) where
        its_part : w ≡ take_while in_content (drop x.from table)
        its_part = e ∙ scan_part in_content table x.from x.to B.part_is

        -- what is read of the line
        pub seeking_good : Good w
        seeking_good = rw its_part line_good

        module _ {k : ℕ} (E : k ≡ x.to + length (take_while in_line (drop x.to table))) where
          pub seeking_more : {b : Bool} → b ≡ deeper_in (labels label) (read_line w) → b ≡ false → {j : ℕ} → j ≡ k + 1 → Seeking label table n from j
          seeking_more g h i =
              let d = shallow_line (read_line (take_while in_content (drop x.from table))) (rw (← its_part) (sym g ∙ h)) in
              let P = passed_line label table (n - 1) x.from k (omega (arith, B.inside)) (next_line table x.from x.to k B.part_is E) line_good d in
              rw i (record {
                lent = R.lent;
                sought = record { onward = omega (arith, R.sought.onward, next_onward B E); inside = next_inside B E; passed = passed_on there.passed P };
              })

pub ruleset seek_laws = (seeking_starts, seeking_short, seeking_fits, seeking_smaller, seeking_good, rules)

-- of the turns and the answers of `next_deeper` alone, so that a search that fails tries every way
pub ruleset seek_turns = (seeking_found, seeking_more, seeking_ends)

-- ---- the span

-- a good table is not too long, and its lines are good
record Whole (table : Bytes) : Type 0 where
  pub short : length table ≤ 1048576
  pub good : is_none (read_lines (lines_from table 0)) ≡ false

whole : (table : Bytes) → is_none (read_table table) ≡ false → Whole table
whole table g = let s = table_short table g in record { short = s; good = rw (lines_in table 0 (omega arith), table_read table s) g }

pub seeks_first : {label table : Bytes} {n : ℕ} → n ≡ length (labels label) → is_none (read_table table) ≡ false → Seeks label table n 0
seeks_first {label} {table} c g =
    let W = whole table g in
    record { some = omega (arith, c, labels_some label); inside = omega arith; short = W.short; labels_are = c; good = W.good }

-- from the first such line to the end of the last one so far
pub record Spanning (label table : Bytes) (d from to : ℕ) : Type 0 where
  pub onward : from ≤ to
  pub inside : to ≤ length table
  pub stops : to < length table → get_or table to 0 ≡ 10
  pub before : Sought label table d 0 from

-- where a line was found
record Stops (label table : Bytes) (d from at : ℕ) : Type 0 where
  pub there : at < length table
  pub sought : Sought label table d from at

stops : {label table : Bytes} {d from at : ℕ} {q : Option ℕ} → Found label table d from q → q ≡ Some at → Stops label table d from at
stops (all_passed h S) e = let z : ◌≡◌ {A = ℕ} 0 1 = cc in absurd (omega arith)
stops {at} (stops_at {to} h S) e = let z : to ≡ at = cc in record { there = rw z at h; sought = rw z at S }

pub spanning_starts : {label table : Bytes} {d from to : ℕ} {q : Option ℕ} → to ≡ from + length (take_while in_line (drop from table)) → Found label table d 0 q → q ≡ Some from → Spanning label table d from to
spanning_starts {table = table} {from = from} {to = to} e F f =
    let S = stops F f in
    record {
      onward = scan_from in_line table from to e;
      inside = scan_to in_line table from to e (omega (arith, S.there));
      stops = line_stops table from to e;
      before = S.sought;
    }

module _ {label table : Bytes} {d from to : ℕ} (R : Spanning label table d from to) where
  pub behind_fits : is_none (read_table table) ≡ false → Fits w64 (to + 1)
  behind_fits g = record { fits = omega (arith, R.inside, (whole table g).short) }

  -- the lines behind the last one so far
  pub seeks_behind : {n : ℕ} → n ≡ length (labels label) → is_none (read_table table) ≡ false → Seeks label table n (to + 1)
  seeks_behind c g =
      let S = seeks_first {table = table} c g in
      let c = lines_both table 0 to (omega arith) R.inside R.stops in
      let b = good_both (split_at 10 (take (to - 0) table)) (lines_from table (to + 1)) (ap (λ (ls : List Bytes). is_none (read_lines ls)) (sym c) ∙ S.good) in
      record { some = S.some; inside = omega (arith, R.inside); short = S.short; labels_are = S.labels_are; good = b.1 }

  module _ {q : Option ℕ} (F : Found label table d (to + 1) q) {at end : ℕ} (f : q ≡ Some at) (e : end ≡ at + length (take_while in_line (drop at table))) where
    S : Stops label table d (to + 1) at
    S = stops F f

    pub spanning_smaller : length table - end < length table - to
    spanning_smaller = omega (arith, S.there, S.sought.onward, scan_from in_line table at end e)

    pub spanning_more : Spanning label table d from end
    spanning_more = record {
      onward = omega (arith, R.onward, S.sought.onward, scan_from in_line table at end e);
      inside = scan_to in_line table at end e (omega (arith, S.there));
      stops = line_stops table at end e;
      before = R.before;
    }

-- no line passed goes deeper than the whole label
passed_not : {label table : Bytes} {n from to : ℕ} → n ≡ length (labels label) → (P : Passed label table (n - 1) from to) → any (goes_deeper (labels label)) P.rules ≡ false
passed_not {label} {n = n} c P =
    let l = labels_some label in
    ap (λ (ls : List Bytes). any (goes_deeper ls) P.rules) (sym (last_whole (labels label)))
    ∙ any_depth (length (labels label)) (labels label) P.rules l (omega arith)
    ∙ lt-leb (length (labels label)) (deepest (labels label) P.rules) (omega (arith, c, P.depth))

deeper_none : (ls : List Bytes) → deeper_in ls (read_lines []) ≡ false
unfolding deeper_in read_lines any
deeper_none ls = refl

deeper_some : (ls : List Bytes) (rules : List Rule) → deeper_in ls (Some rules) ≡ any (goes_deeper ls) rules
unfolding deeper_in
deeper_some ls rules = refl

-- behind the last line there is none, or an empty one
last_lines : (table : Bytes) (at : ℕ) → length table ≤ at → read_lines (lines_from table at) ≡ Some []
last_lines table at h = go (ltb (length table) at) refl
  where
    none_read : read_lines [] ≡ Some []
    none_read = unfold read_lines in refl

    empty_read : read_lines (split_at 10 []) ≡ Some []
    empty_read = unfold split_at read_lines content take_while is_skipped in refl

    go : (u : Bool) → ltb (length table) at ≡ u → read_lines (lines_from table at) ≡ Some []
    go true e = rw (lines_out table at (ltb-true (length table) at e)) none_read
    go false e = rw (lines_in table at (ltb-false (length table) at e), drop_of_length-le table h) empty_read

pub span_whole : (table label : Bytes) → Spans table label 0 (length table)
span_whole table label = record {
  before = [];
  behind = [];
  onward = omega arith;
  inside = omega arith;
  lines = rw (append-nil, rest_whole table 0);
  before_not = deeper_none (labels label);
  behind_not = deeper_none (labels label);
}

spans_of : {label table : Bytes} {n from to at : ℕ} → Spanning label table (n - 1) from to → Sought label table (n - 1) (to + 1) at → length table ≤ at → n ≡ length (labels label) → Spans table label from to
spans_of {label} {table} {n} {from} {to} {at} R S h c =
    let P = R.before.passed in
    let Q = S.passed in
    record {
      before = P.lines;
      behind = lines_from table (to + 1);
      onward = R.onward;
      inside = R.inside;
      lines = sym (lines_in table 0 (omega arith)) ∙ P.are ∙ rw (lines_both table from to R.onward R.inside R.stops);
      before_not = rw P.read (deeper_some (labels label) P.rules ∙ passed_not c P);
      behind_not = rw (behind_read, append-nil) (deeper_some (labels label) Q.rules ∙ passed_not c Q);
    }
  where
    behind_read : read_lines (lines_from table (to + 1)) ≡ Some (S.passed.rules ++ [])
    behind_read = ap read_lines S.passed.are ∙ read_both S.passed.lines (lines_from table at) ∙ rw (S.passed.read, last_lines table at h)

pub spanning_ends : {host label table : Bytes} {n from to : ℕ} {q : Option ℕ} → Spanning host table (n - 1) from to → Found host table (n - 1) (to + 1) q → q ≡ None → host ≡ label → n ≡ length (labels host) → Spans table label from to
spanning_ends {host} {label} {table} {n} {from} {to} R F f e c = rw (← e) (go F f)
  where
    go : {q : Option ℕ} → Found host table (n - 1) (to + 1) q → q ≡ None → Spans table host from to
    go (all_passed h S) f = spans_of R S h c
    go (stops_at h S) f = let z : ◌≡◌ {A = ℕ} 0 1 = cc in absurd (omega arith)

pub ruleset span_laws = (seeks_first, behind_fits, spanning_starts, span_whole, spanning_smaller, rules)

-- of the turns and the last return of `find_span` alone, so that a search that fails tries every way
pub ruleset turn_laws = (seeks_behind, spanning_more, spanning_ends)
