-- What a line of each form finds for a host, and whether it goes deeper than a label. Assumes nothing.
use Rattle.std.specs.Prelude.{if◌then◌else◌, Option, None, Some}
use mathlib.Core.Path.{◌≡◌, refl, sym, ap, ◌∙◌}
use mathlib.Core.Bool.{Bool, true, false, ◌&&◌, ◌||◌, not, and-eq-true_iff}
use mathlib.Core.List.{List, [], ◌∷◌}
use Prim.Native.Nat.{ℕ, suc, ◌+◌, ◌-◌, ◌*◌, ◌^◌, ◌≤◌, ◌<◌}
use native.Mathlib.Omega.{arith}
use mir.Val.{Fits}
use mir.Syntax.{w64}
use lib.ListN.{length, take, drop}
use lib.Dec.{leb}
use borrow.Author.Rules.{rules}
use borrow.Author.Tests.{lt-leb, leb-true, leb-false, le-leb, le-ltb}
use Rattle.ascii.specs.Ascii.{Bytes, is_none, any}
use Rattle.hosts.specs.Host.{labels, is_host}
use Rattle.hosts.specs.code.Place.{ends_at_label}
use Rattle.hosts.proofs.Ends.{true_false, labels_some, labels_few}
use Rattle.hosts.proofs.Places.{rest_whole}
use Rattle.suffix.specs.Suffix.{Rule, normal, exceptional, read_rule}
use Rattle.suffix.specs.code.Pass.{sizes_of, best_of, one_rule, read_line}
use Rattle.suffix.specs.code.Deeper.{goes_deeper, deeper_in}
use Rattle.suffix.specs.code.Depth.{Good, is_good}
use Rattle.suffix.specs.code.Form.{form_of}
use Rattle.suffix.specs.declared.Sizes.{Sizes}
use Rattle.suffix.specs.declared.Form.{Form}
use Rattle.suffix.specs.declared.Form.TheVariants.{Nothing, Star, Wild, Exception, Name}
use Rattle.suffix.proofs.Ends.{wild}
use Rattle.suffix.proofs.Lines.{wild_form, exception_form, host_yes, host_no, wild_no, wild_yes, wild_less, exception_yes, exception_no, star_found, nothing_found}
use Rattle.suffix.proofs.Deepens.{name_not, name_ends, wild_goes}
use Rattle.suffix.proofs.FormLaws.{told, wild_in, exception_in}
use Rattle.label_lookup.specs.code.Finds.{FindsHost, FindsRule, FindsLine}

-- ---- good lines

-- a rule by a test
tested : (u : Bool) (r : Rule) → u ≡ not (is_none (one_rule (if u then Some r else None)))
unfolding one_rule
tested true r = refl
tested false r = refl

shorter : (n : ℕ) → leb n 251 ≡ leb (suc (suc n)) 253
shorter n = go (leb n 251) refl
  where
    go : (u : Bool) → leb n 251 ≡ u → u ≡ leb (suc (suc n)) 253
    go true e = let h = leb-true n 251 e in sym (le-leb (suc (suc n)) 253 (omega arith))
    go false e = let h = leb-false n 251 e in sym (lt-leb (suc (suc n)) 253 (omega arith))

module _ (w : Bytes) {q : Form} (e : q ≡ form_of w) where
  pub good_nothing : q ≡ Nothing → true ≡ is_good w
  unfolding is_good
  good_nothing f = rw (told w Nothing e f)

  pub good_star : q ≡ Star → true ≡ is_good w
  unfolding is_good
  good_star f = rw (told w Star e f)

  pub good_wild : {b : Bool} → q ≡ Wild → b ≡ (is_host (take (length w - 2) (drop 2 w)) && leb (length (take (length w - 2) (drop 2 w))) 251) → b ≡ is_good w
  unfolding is_good
  good_wild f g = g ∙ rw (rest_whole w 2, (told w Wild e f).1, wild_form (drop 2 w), shorter (length (drop 2 w))) (tested (is_host (drop 2 w) && leb (suc (suc (length (drop 2 w)))) 253) (wild (drop 2 w)))

  pub good_exception : {b : Bool} → q ≡ Exception → b ≡ (is_host (take (length w - 1) (drop 1 w)) && leb 2 (length (labels (take (length w - 1) (drop 1 w))))) → b ≡ is_good w
  unfolding is_good
  good_exception f g =
      g ∙ rw (rest_whole w 1, (told w Exception e f).1, exception_form (drop 1 w)) (tested (is_host (drop 1 w) && leb 2 (length (labels (drop 1 w)))) (exceptional (labels (drop 1 w))))

  pub good_name : {b : Bool} → q ≡ Name → b ≡ is_host w → b ≡ is_good w
  unfolding is_good
  good_name f g = g ∙ rw (told w Name e f) (tested (is_host w) (normal (labels w)))

pub ruleset good_laws = (wild_in, exception_in, good_nothing, good_star, good_wild, good_exception, good_name, rules)

-- ---- what a good line of a form reads

record Reads (v : Bytes) (o : Option (List Rule)) (r : Rule) : Type 0 where
  pub host : is_host v ≡ true
  pub is : o ≡ one_rule (Some r)

-- a test that a rule needs, where there is a rule
needed : (u : Bool) (r : Rule) → is_none (one_rule (if u then Some r else None)) ≡ false → u ≡ true
unfolding one_rule
needed true r g = refl
needed false r g = true_false g

wild_needs : (v : Bytes) → is_none (one_rule (read_rule (42 ∷ 46 ∷ v))) ≡ false → (is_host v ≡ true) × (length v ≤ 251)
wild_needs v g =
    let p = needed (is_host v && leb (suc (suc (length v))) 253) (wild v) (rw (wild_form v) at g) in
    let t = (and-eq-true_iff (is_host v) (leb (suc (suc (length v))) 253)).0 p in
    let l = leb-true (suc (suc (length v))) 253 t.1 in
    (t.0, omega arith)

exception_needs : (v : Bytes) → is_none (one_rule (read_rule (33 ∷ v))) ≡ false → (is_host v ≡ true) × (2 ≤ length (labels v))
exception_needs v g =
    let p = needed (is_host v && leb 2 (length (labels v))) (exceptional (labels v)) (rw (exception_form v) at g) in
    let t = (and-eq-true_iff (is_host v) (leb 2 (length (labels v)))).0 p in
    (t.0, leb-true 2 (length (labels v)) t.1)

module _ (w : Bytes) {q : Form} (e : q ≡ form_of w) (G : Good w) where
  wild_reads : q ≡ Wild → Reads (drop 2 w) (read_line w) (wild (drop 2 w))
  wild_reads f =
      let r = (told w Wild e f).1 in
      let t = wild_needs (drop 2 w) (rw r at G.is) in
      record { host = t.0; is = r ∙ rw (wild_form (drop 2 w), t.0, le-leb (suc (suc (length (drop 2 w)))) 253 (omega (arith, t.1))) }

  exception_reads : q ≡ Exception → Reads (drop 1 w) (read_line w) (exceptional (labels (drop 1 w)))
  exception_reads f =
      let r = (told w Exception e f).1 in
      let t = exception_needs (drop 1 w) (rw r at G.is) in
      record { host = t.0; is = r ∙ rw (exception_form (drop 1 w), t.0, le-leb 2 (length (labels (drop 1 w))) t.1) }

  name_reads : q ≡ Name → Reads w (read_line w) (normal (labels w))
  name_reads f =
      let r = told w Name e f in
      let t = needed (is_host w) (normal (labels w)) (rw r at G.is) in
      record { host = t; is = r ∙ rw t }

-- ---- what it finds

module _ (h w : Bytes) {b : Bool} (e : b ≡ ends_at_label w h) {r : Sizes} where
  pub name_yes : {n : ℕ} → b ≡ true → n ≡ length (labels w) → r ≡ sizes_of 0 n → FindsHost h w r
  name_yes f g i = record { is = λ k. rw i (host_yes h w k e f g) }

  pub name_no : b ≡ false → r ≡ sizes_of 0 0 → FindsHost h w r
  name_no f i = record { is = λ k. rw i (host_no h w k e f) }

pub wild_fits : (v : Bytes) {n : ℕ} → n ≡ length (labels v) → length v * 1 < 2 ^ 63 → Fits w64 (n + 1)
wild_fits v g l = record { fits = omega (arith, g, labels_few v) }

module _ (h v : Bytes) {b : Bool} (e : b ≡ ends_at_label v h) {r : Sizes} where
  pub wild_found : {n : ℕ} → b ≡ true → length v < length h → n ≡ length (labels v) → r ≡ sizes_of 0 (n + 1) → FindsRule h (42 ∷ 46 ∷ v) r
  wild_found f m g i = record { is = λ k. let t = wild_needs v k in rw i (wild_yes h v t.0 t.1 e f m g) }

  pub wild_whole : b ≡ true → length h ≤ length v → r ≡ sizes_of 0 0 → FindsRule h (42 ∷ 46 ∷ v) r
  wild_whole f m i = record { is = λ k. let t = wild_needs v k in rw i (wild_less h v t.0 t.1 e f m) }

  pub wild_none : b ≡ false → r ≡ sizes_of 0 0 → FindsRule h (42 ∷ 46 ∷ v) r
  wild_none f i = record { is = λ k. let t = wild_needs v k in rw i (wild_no h v t.0 t.1 e f) }

  pub exception_found : {n : ℕ} → b ≡ true → n ≡ length (labels v) → r ≡ sizes_of n n → FindsRule h (33 ∷ v) r
  exception_found f g i = record { is = λ k. let t = exception_needs v k in rw i (exception_yes h v t.0 t.1 e f g) }

  pub exception_other : b ≡ false → r ≡ sizes_of 0 0 → FindsRule h (33 ∷ v) r
  exception_other f i = record { is = λ k. let t = exception_needs v k in rw i (exception_no h v t.0 t.1 e f) }

module _ (h w : Bytes) {q : Form} (e : q ≡ form_of w) {r : Sizes} where
  pub nothing_line : q ≡ Nothing → r ≡ sizes_of 0 0 → FindsLine h w r
  nothing_line f i = record { is = λ G. rw (i, told w Nothing e f) (nothing_found h) }

  pub star_line : q ≡ Star → r ≡ sizes_of 0 1 → FindsLine h w r
  star_line f i = record { is = λ G. rw (i, told w Star e f) (star_found h) }

  pub wild_line : q ≡ Wild → FindsRule h (42 ∷ 46 ∷ take (length w - 2) (drop 2 w)) r → FindsLine h w r
  wild_line f F = record { is = λ G. let t = (told w Wild e f).1 in rw (t, ← rest_whole w 2) (F.is (rw (t, ← rest_whole w 2) at G.is)) }

  pub exception_line : q ≡ Exception → FindsRule h (33 ∷ take (length w - 1) (drop 1 w)) r → FindsLine h w r
  exception_line f F = record { is = λ G. let t = (told w Exception e f).1 in rw (t, ← rest_whole w 1) (F.is (rw (t, ← rest_whole w 1) at G.is)) }

  pub name_line : q ≡ Name → FindsHost h w r → FindsLine h w r
  name_line f F = record { is = λ G. let R = name_reads w e G f in rw R.is (F.is R.host ∙ ap (best_of (labels h)) (ap one_rule (unfold read_rule in (rw R.host)))) }

pub ruleset name_laws = (name_yes, name_no, rules)

pub ruleset wild_laws = (wild_found, wild_whole, wild_none, wild_fits, rules)

pub ruleset exception_laws = (exception_found, exception_other, rules)

pub ruleset form_laws = (wild_in, exception_in, nothing_line, star_line, wild_line, exception_line, name_line, rules)

-- any line
pub told_good : (w : Bytes) {b : Bool} → b ≡ is_good w → b ≡ true → Good w
unfolding is_good
told_good w e f = record { is = go (is_none (read_line w)) (sym e ∙ f) }
  where
    go : (u : Bool) → not u ≡ true → u ≡ false
    go true z = true_false (sym z)
    go false z = refl

pub told_bad : (w : Bytes) {b : Bool} → b ≡ is_good w → b ≡ false → read_line w ≡ None
unfolding is_good
told_bad w e f = go (read_line w) (sym e ∙ f)
  where
    go : (o : Option (List Rule)) → not (is_none o) ≡ false → o ≡ None
    go None z = refl
    go (Some rs) z = true_false z

-- ---- whether it goes deeper

one_deeper : (ls : List Bytes) (r : Rule) → goes_deeper ls r ≡ deeper_in ls (one_rule (Some r))
unfolding deeper_in one_rule any
one_deeper ls r = go (goes_deeper ls r)
  where
    go : (u : Bool) → u ≡ (u || false)
    go true = refl
    go false = refl

module _ (label w : Bytes) {q : Form} (e : q ≡ form_of w) where
  pub deeper_nothing : q ≡ Nothing → false ≡ deeper_in (labels label) (read_line w)
  unfolding deeper_in any
  deeper_nothing f = rw (told w Nothing e f)

  pub deeper_star : q ≡ Star → false ≡ deeper_in (labels label) (read_line w)
  deeper_star f = rw (told w Star e f) (sym short ∙ one_deeper (labels label) (normal ((42 ∷ []) ∷ [])) ∙ (unfold one_rule in refl))
    where
      short : goes_deeper (labels label) (normal ((42 ∷ []) ∷ [])) ≡ false
      short = unfold goes_deeper in (rw (le-ltb (length (labels label)) 1 (labels_some label)))

  module _ (G : Good w) where
    pub deeper_wild : {b : Bool} → q ≡ Wild → b ≡ ends_at_label label (take (length w - 2) (drop 2 w)) → b ≡ deeper_in (labels label) (read_line w)
    deeper_wild f g = let R = wild_reads w e G f in g ∙ rw (rest_whole w 2, R.is) (wild_goes label (drop 2 w) R.host ∙ one_deeper (labels label) (wild (drop 2 w)))

    pub exception_named : q ≡ Exception → is_host (take (length w - 1) (drop 1 w)) ≡ true
    exception_named f = rw (rest_whole w 1) (exception_reads w e G f).host

    pub deeper_exception : {b : Bool} → q ≡ Exception → b ≡ goes_deeper (labels label) (normal (labels (take (length w - 1) (drop 1 w)))) → b ≡ deeper_in (labels label) (read_line w)
    deeper_exception f g = g ∙ rw (rest_whole w 1, (exception_reads w e G f).is) (alike (labels (drop 1 w)) ∙ one_deeper (labels label) (exceptional (labels (drop 1 w))))
      where
        alike : (ns : List Bytes) → goes_deeper (labels label) (normal ns) ≡ goes_deeper (labels label) (exceptional ns)
        alike ns = unfold goes_deeper in refl

    pub name_named : q ≡ Name → is_host w ≡ true
    name_named f = (name_reads w e G f).host

    pub deeper_name : {b : Bool} → q ≡ Name → b ≡ goes_deeper (labels label) (normal (labels w)) → b ≡ deeper_in (labels label) (read_line w)
    deeper_name f g = g ∙ rw (name_reads w e G f).is (one_deeper (labels label) (normal (labels w)))

pub ruleset deeper_laws = (name_not, name_ends, wild_in, exception_in, deeper_nothing, deeper_star, deeper_wild, exception_named, deeper_exception, name_named, deeper_name, rules)
