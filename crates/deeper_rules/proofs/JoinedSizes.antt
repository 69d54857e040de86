-- A host that ends in the private label of another: what the table found for that one, joined with what the span of the deeper
-- rules finds for this one, gives the size of its public suffix. Assumes nothing.
use Rattle.std.specs.Prelude.{if◌then◌else◌, Option, None, Some}
use mathlib.Core.Path.{◌≡◌, refl, sym, ap, ◌∙◌}
use mathlib.Core.Bool.{Bool, true, false}
use mathlib.Core.List.{List, [], ◌∷◌, ◌++◌}
use Prim.Native.Nat.{ℕ, ◌+◌, ◌-◌, ◌≤◌, ◌<◌, max}
use native.Mathlib.Omega.{arith}
use lib.ListN.{length, take, drop, length-take, length-drop}
use lib.Dec.{eqb, ltb}
use borrow.Author.Rules.{rules}
use borrow.Author.Tests.{eqb-true, le-ltb, ltb-true, ltb-false}
use Rattle.ascii.specs.Ascii.{Bytes, is_none, filter_by, last_of, split_at}
use Rattle.hosts.specs.Host.{labels}
use Rattle.suffix.specs.Suffix.{Rule, matches, read_lines, read_table}
use Rattle.hosts.specs.code.Place.{ends_at_label}
use Rattle.suffix.specs.code.Pass.{sized, max_labels, sizes, best_of, joined, join_best, size_of}
use Rattle.suffix.specs.code.Deeper.{goes_deeper, deeper_in}
use Rattle.label_lookup.specs.code.Span.{Spans, Held}
use Rattle.suffix.specs.declared.Sizes.{Sizes}
use Rattle.label_lookup.specs.declared.Deeper.{Deeper}
use Rattle.hosts.proofs.Ends.{Alike, true_false}
use Rattle.suffix.proofs.Answers.{Found, found, size_exception}
use Rattle.suffix.proofs.Passes.{same_sizes, join_bad}
use Rattle.suffix.proofs.Climbs.{found_good, table_short, table_read}
use Rattle.suffix.proofs.Cuts.{best_both}
use Rattle.suffix.proofs.Speed.{rule_same, rules_same, Within, within, home, label_size, by_size}
use Rattle.suffix.proofs.Owned.{has_no_end}
use Rattle.deeper_rules.specs.code.Findings.{FindsTable, Tells}

-- ---- numbers

-- the labels of the largest rules that match: of those before the span (a), in it and behind it (c); in it for the one host (g)
-- and the other (h)
module _ (ea eg ec eh ma mg mc mh e m : ℕ) (x : e ≡ max ea (max eg ec)) (y : m ≡ max ma (max mg mc)) (k : ℕ) (s : k ≡ size_of e m + 1) (u : eg ≤ k → eg ≤ eh) (v : mg ≤ k → mg ≤ mh) where
  by_exception : 0 < e → size_of (max ea (max eh ec)) (max ma (max mh mc)) ≡ size_of (max e eh) (max m mh)
  by_exception l =
      let w = u (omega (arith, s, size_exception e m l)) in
      let z : max ea (max eh ec) ≡ max e eh = omega arith in
      rw z (sym (size_exception (max e eh) (max ma (max mh mc)) (omega arith)) ∙ size_exception (max e eh) (max m mh) (omega arith))

  by_most : e ≤ 0 → size_of (max ea (max eh ec)) (max ma (max mh mc)) ≡ size_of (max e eh) (max m mh)
  by_most l = let z : max ea (max eh ec) ≡ max e eh = omega arith in rw z (go (ltb 0 eh) refl)
    where
      not_less : m ≤ size_of e m + 1
      not_less = unfold size_of in (rw (le-ltb 0 e l) (small (eqb m 0) refl))
        where
          small : (t : Bool) → eqb m 0 ≡ t → m ≤ (if t then 1 else m) + 1
          small true z = omega (arith, eqb-true m 0 z)
          small false z = omega arith

      go : (t : Bool) → ltb 0 eh ≡ t → size_of (max e eh) (max ma (max mh mc)) ≡ size_of (max e eh) (max m mh)
      go true h =
          let p = ltb-true 0 eh h in
          sym (size_exception (max e eh) (max ma (max mh mc)) (omega arith)) ∙ size_exception (max e eh) (max m mh) (omega arith)
      go false h = let w = v (omega (arith, s, not_less)) in ap (size_of (max e eh)) (omega arith)

  same_size : size_of (max ea (max eh ec)) (max ma (max mh mc)) ≡ size_of (max e eh) (max m mh)
  same_size = go (ltb 0 e) refl
    where
      go : (t : Bool) → ltb 0 e ≡ t → size_of (max ea (max eh ec)) (max ma (max mh mc)) ≡ size_of (max e eh) (max m mh)
      go true h = by_exception (ltb-true 0 e h)
      go false h = by_most (ltb-false 0 e h)

-- ---- rules

filter_swap : (p q : Rule → Bool) (rs : List Rule) → filter_by p (filter_by q rs) ≡ filter_by q (filter_by p rs)
unfolding filter_by
filter_swap p q [] = refl
filter_swap p q (r ∷ rs) = go (p r) (q r) refl refl (filter_swap p q rs)
  where
    go : (u v : Bool) → p r ≡ u → q r ≡ v → filter_by p (filter_by q rs) ≡ filter_by q (filter_by p rs)
        → filter_by p (if v then r ∷ filter_by q rs else filter_by q rs) ≡ filter_by q (if u then r ∷ filter_by p rs else filter_by p rs)
    go true true e f ih = rw (e, f, ih)
    go true false e f ih = rw (f, ih)
    go false true e f ih = rw (e, ih)
    go false false e f ih = ih

-- two hosts that end in the same labels
module _ (ls g h : List Bytes) (lg : length ls ≤ length g) (eg : Alike (last_of (length ls) g) ls) (lh : length ls ≤ length h) (eh : Alike (last_of (length ls) h) ls) where
  -- a rule that goes no deeper than these matches both or none
  same_match : (r : Rule) → goes_deeper ls r ≡ false → matches h r ≡ matches g r
  same_match r d = rule_same ls h lh eh r d ∙ sym (rule_same ls g lg eg r d)

  same_best : (o : Option (List Rule)) → deeper_in ls o ≡ false → best_of h o ≡ best_of g o
  unfolding deeper_in best_of
  same_best None d = true_false d
  same_best (Some rs) d = ap (λ (ms : List Rule). Some (sizes ms)) (rules_same ls h lh eh rs d ∙ sym (rules_same ls g lg eg rs d))

  -- and so does one of no more labels than these
  fewer : (rs : List Rule) → max_labels (filter_by (matches g) rs) ≤ length ls → max_labels (filter_by (matches g) rs) ≤ max_labels (filter_by (matches h) rs)
  unfolding filter_by max_labels
  fewer [] k = omega arith
  fewer (r ∷ rs) k = go (matches g r) refl (matches h r) refl k (fewer rs)
    where
      few : length r.names ≤ length ls → goes_deeper ls r ≡ false
      few n = unfold goes_deeper in (rw (le-ltb (length ls) (length r.names) n))

      go : (u : Bool) → matches g r ≡ u → (v : Bool) → matches h r ≡ v → max_labels (if u then r ∷ filter_by (matches g) rs else filter_by (matches g) rs) ≤ length ls
          → (max_labels (filter_by (matches g) rs) ≤ length ls → max_labels (filter_by (matches g) rs) ≤ max_labels (filter_by (matches h) rs))
          → max_labels (if u then r ∷ filter_by (matches g) rs else filter_by (matches g) rs) ≤ max_labels (if v then r ∷ filter_by (matches h) rs else filter_by (matches h) rs)
      go true a true b k ih = let z = ih (omega arith) in omega arith
      go true a false b k ih = true_false (sym a ∙ sym (same_match r (few (omega arith))) ∙ b)
      go false a true b k ih = let z = ih k in omega arith
      go false a false b k ih = ih k

  record Fewer (eG mG eH mH : ℕ) : Type 0 where
    exceptions : eG ≤ length ls → eG ≤ eH
    rules : mG ≤ length ls → mG ≤ mH

  fewer_found : (o : Option (List Rule)) (eG mG eH mH : ℕ) → best_of g o ≡ sized eG mG → best_of h o ≡ sized eH mH → Fewer eG mG eH mH
  unfolding best_of sizes
  fewer_found None eG mG eH mH a b = let z : ◌≡◌ {A = ℕ} 0 1 = cc in absurd (omega arith)
  fewer_found (Some rs) eG mG eH mH a b =
      let own = same_sizes a in
      let other = same_sizes b in
      let x : max_labels (filter_by (λ r. r.exception) (filter_by (matches g) rs)) ≡ eG = own.0 in
      let y : max_labels (filter_by (matches g) rs) ≡ mG = own.1 in
      let z : max_labels (filter_by (λ r. r.exception) (filter_by (matches h) rs)) ≡ eH = other.0 in
      let w : max_labels (filter_by (matches h) rs) ≡ mH = other.1 in
      let p : max_labels (filter_by (matches g) (filter_by (λ r. r.exception) rs)) ≡ eG = ap max_labels (filter_swap (matches g) (λ r. r.exception) rs) ∙ x in
      let q : max_labels (filter_by (matches h) (filter_by (λ r. r.exception) rs)) ≡ eH = ap max_labels (filter_swap (matches h) (λ r. r.exception) rs) ∙ z in
      record {
        exceptions = rw (p, q) at (fewer (filter_by (λ r. r.exception) rs));
        rules = rw (y, w) at (fewer rs);
      }

-- ---- the law

-- what is held of one host
module _ (table home₀ label : Bytes) (d : Deeper) (H : Held table home₀ label d) where
  S : Spans table label d.span.from d.span.to
  S = H.spans

  span : List Bytes
  span = split_at 10 (take (d.span.to - d.span.from) (drop d.span.from table))

  short : length table ≤ 1048576
  short = table_short table (found_good (labels home₀) (read_table table) (sym H.found))

  -- the span is read as a table is
  span_read : read_table (take (d.span.to - d.span.from) (drop d.span.from table)) ≡ read_lines span
  unfolding span
  span_read =
      sym (table_read (take (d.span.to - d.span.from) (drop d.span.from table))
      (omega (arith, length-take (d.span.to - d.span.from) (drop d.span.from table), length-drop d.span.from table, short)))

  -- before the span, in it and behind it
  cut : (hl : List Bytes) → best_of hl (read_table table) ≡ join_best (best_of hl (read_lines S.before)) (join_best (best_of hl (read_lines span)) (best_of hl (read_lines S.behind)))
  unfolding span
  cut hl =
      rw (← table_read table short, S.lines)
      (best_both hl S.before (span ++ S.behind) ∙ ap (join_best (best_of hl (read_lines S.before))) (best_both hl span S.behind))

  -- a table that finds something is good, and so is its span
  span_good : is_none (read_lines span) ≡ false
  span_good = go (read_lines span) refl
    where
      joined : (a c : Option Sizes) → join_best a (join_best None c) ≡ None
      joined a c = ap (join_best a) first ∙ join_bad a
        where
          first : join_best None c ≡ None
          first = unfold join_best in refl

      bad : (hl : List Bytes) → best_of hl None ≡ None
      bad hl = unfold best_of in refl

      go : (o : Option (List Rule)) → read_lines span ≡ o → is_none o ≡ false
      go None n =
          let w : None ≡ Some d.sizes =
          sym (joined (best_of (labels home₀) (read_lines S.before)) (best_of (labels home₀) (read_lines S.behind)))
          ∙ sym (rw (n, bad (labels home₀)) at (cut (labels home₀))) ∙ H.found in
          let z : ◌≡◌ {A = ℕ} 0 1 = cc in
          absurd (omega arith)
      go (Some rs) n = refl

  home_found : Found table home₀ (size_of d.sizes.exception d.sizes.most)
  home_found = found table home₀ d.sizes.exception d.sizes.most (sym H.found)

  -- another host that ends in the label, for which the span finds this
  module _ (h : Bytes) (t : ends_at_label label h ≡ true) (x y : ℕ) (f : best_of (labels h) (read_lines span) ≡ sized x y) where
    own : Within table home₀ label H.label_is home₀
    own = home table home₀ label H.label_is

    here : Within table home₀ label H.label_is h
    here = within table home₀ label H.label_is h t

    outside : (o : Option (List Rule)) → deeper_in (labels label) o ≡ false → best_of (labels h) o ≡ best_of (labels home₀) o
    outside = same_best (labels label) (labels home₀) (labels h) own.fits own.alike here.fits here.alike

    joined_size : Found table h (size_of (max d.sizes.exception x) (max d.sizes.most y))
    joined_size = go (best_of (labels home₀) (read_lines S.before)) refl (best_of (labels home₀) (read_lines span)) refl (best_of (labels home₀) (read_lines S.behind)) refl (sym (cut (labels home₀)) ∙ H.found)
      where
        whole : (a c : Option Sizes) → best_of (labels home₀) (read_lines S.before) ≡ a → best_of (labels home₀) (read_lines S.behind) ≡ c → best_of (labels h) (read_table table) ≡ join_best a (join_best (sized x y) c)
        whole a c p r = cut (labels h) ∙ rw (outside (read_lines S.before) S.before_not ∙ p, f, outside (read_lines S.behind) S.behind_not ∙ r)

        go : (a : Option Sizes) → best_of (labels home₀) (read_lines S.before) ≡ a → (b : Option Sizes) → best_of (labels home₀) (read_lines span) ≡ b → (c : Option Sizes) → best_of (labels home₀) (read_lines S.behind) ≡ c
            → join_best a (join_best b c) ≡ Some d.sizes → Found table h (size_of (max d.sizes.exception x) (max d.sizes.most y))
        go None p b q c r j = unfold join_best in (let z : ◌≡◌ {A = ℕ} 0 1 = cc in absurd (omega arith))
        go (Some sa) p None q c r j = unfold join_best in (let z : ◌≡◌ {A = ℕ} 0 1 = cc in absurd (omega arith))
        go (Some sa) p (Some sg) q None r j = unfold join_best in (let z : ◌≡◌ {A = ℕ} 0 1 = cc in absurd (omega arith))
        go (Some sa) p (Some sg) q (Some sc) r j = unfold join_best in (
            let both = same_sizes (sym j) in
            let e : d.sizes.exception ≡ max sa.exception (max sg.exception sc.exception) = both.0 in
            let m : d.sizes.most ≡ max sa.most (max sg.most sc.most) = both.1 in
            let F = fewer_found (labels label) (labels home₀) (labels h) own.fits own.alike here.fits here.alike (read_lines span) sg.exception sg.most x y q f in
            rw (← same_size sa.exception sg.exception sc.exception x sa.most sg.most sc.most y d.sizes.exception d.sizes.most e m (length (labels label)) (label_size table home₀ label H.label_is home_found) F.exceptions F.rules)
            (found table h (max sa.exception (max x sc.exception)) (max sa.most (max y sc.most)) (sym (whole (Some sa) (Some sc) p r)))
            )

-- ---- the ways out of the code

module _ (table label : Bytes) (d : Deeper) (h : Bytes) {b : Bool} (e : b ≡ ends_at_label label h) where
  pub tells_not : b ≡ false → Tells table label d h false
  tells_not c = record { is = λ home₀ H a. has_no_end table h label e c }

-- its premises from the last to the first, so that each fixes the next one's unknowns
pub tells_by_size : {table label h s : Bytes} {d : Deeper} {f j : Sizes} {b : Bool} {n k : ℕ} → n ≡ size_of j.exception j.most → k ≡ size_of d.sizes.exception d.sizes.most → j ≡ joined d.sizes f
    → FindsTable h s f → s ≡ take (d.span.to - d.span.from) (drop d.span.from table) → b ≡ true → b ≡ ends_at_label label h → Tells table label d h (eqb n k)
tells_by_size {table} {label} {h} {s} {d} {f} i w u F p c e =
    record { is = λ home₀ H a. rw (w, i, u) (sym (by_size table home₀ label H.label_is h a (size home₀ H) (home_found table home₀ label d H) (sym e ∙ c))) }
  where
    size : (home₀ : Bytes) → Held table home₀ label d → Found table h (size_of (max d.sizes.exception f.exception) (max d.sizes.most f.most))
    size home₀ H =
        let r = span_read table home₀ label d H in
        joined_size table home₀ label d H h (sym e ∙ c) f.exception f.most (sym (rw (p, r) at F.is (span_good table home₀ label d H)))

pub ruleset joined_laws = (tells_not, tells_by_size, rules)

-- the look alone: a search that fails then tries every way
pub ruleset by_sizes = (tells_by_size)
