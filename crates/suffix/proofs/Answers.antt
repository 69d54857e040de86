-- From the numbers of the pass to the private label. Assumes nothing.
use Rattle.std.specs.Prelude.{if◌then◌else◌, Option, None, Some}
use mathlib.Core.Path.{◌≡◌, refl, sym, ap, ap₂, ◌∙◌}
use mathlib.Core.Bool.{Bool, true, false, ◌&&◌, not, and-eq-true_iff}
use mathlib.Core.List.{List, [], ◌∷◌}
use Prim.Native.Nat.{ℕ, ◌+◌, ◌-◌, ◌≤◌, ◌<◌, max}
use native.Mathlib.Omega.{arith}
use lib.ListN.{length, drop, length-drop}
use lib.Seq.{drop-length}
use lib.Dec.{eqb, leb, ltb}
use borrow.Author.Tests.{ne_eqb, eqb-true, eqb-false, lt-leb, le-leb, lt-ltb, le-ltb, leb-true, ltb-true, ltb-false, not-true}
use Rattle.ascii.specs.Ascii.{Bytes, ◌>>=◌, all, filter_by, split_at, last_of, join_with, begins_with, same, text}
use Rattle.hosts.specs.Host.{labels, is_host, is_address}
use Rattle.hosts.specs.code.Place.{Stands}
use Rattle.suffix.specs.Suffix.{Rule, normal, exceptional, content, is_skipped, read_rule, read_lines, read_table, matches, longer, most_labels, prevailing, suffix_size, public_suffix, private_labels, label_under, private_label, or_empty}
use Rattle.suffix.specs.code.Pass.{sized, max_labels, sizes, best_of, size_of, LabelAt}
use Rattle.suffix.specs.declared.Sizes.{Sizes}
use Rattle.hosts.proofs.Ends.{labels_some}
use Rattle.suffix.proofs.Passes.{same_sizes}

-- ---- each rule has a name

abbrev pub named : Rule → Bool
named r = leb 1 (length r.names)

pub data Named : Option (List Rule) → Type 0 where
  no_rules : Named None
  have_names : {rs : List Rule} → all named rs ≡ true → Named (Some rs)

pub data NamedRule : Option Rule → Type 0 where
  no_rule : NamedRule None
  has_name : {r : Rule} → named r ≡ true → NamedRule (Some r)

labels_named : (s : Bytes) → leb 1 (length (labels s)) ≡ true
labels_named s = le-leb 1 (length (labels s)) (labels_some s)

rule_named : (s : Bytes) → NamedRule (read_rule s)
unfolding read_rule
rule_named s =
    go (is_host s) (same s (text "*")) (begins_with (text "*.") s && is_host (drop 2 s) && leb (length s) 253)
    (begins_with (text "!") s && is_host (drop 1 s) && leb 2 (length (labels (drop 1 s))))
  where
    go : (a b c d : Bool) → NamedRule (
        if a then Some (normal (labels s)) else
        if b then Some (normal (labels s)) else
        if c then Some (normal (labels s)) else
        if d then Some (exceptional (labels (drop 1 s))) else None)
    go true b c d = has_name {r = normal (labels s)} (labels_named s)
    go false true c d = has_name {r = normal (labels s)} (labels_named s)
    go false false true d = has_name {r = normal (labels s)} (labels_named s)
    go false false false true = has_name {r = exceptional (labels (drop 1 s))} (labels_named (drop 1 s))
    go false false false false = no_rule

lines_named : (ls : List Bytes) → Named (read_lines ls)
unfolding read_lines all
lines_named [] = have_names refl
lines_named (l ∷ ls) = go (is_skipped (content l)) (rule_named (content l)) (lines_named ls)
  where
    go : {o : Option Rule} {rs : Option (List Rule)} (u : Bool) → NamedRule o → Named rs → Named (if u then rs else (o >>= λ r. rs >>= λ rs. Some (r ∷ rs)))
    go true a b = b
    go false no_rule b = no_rules
    go false (has_name a) no_rules = no_rules
    go false (has_name {r} a) (have_names {rs} b) = have_names ((and-eq-true_iff (named r) (all named rs)).1 (a, b))

pub table_named : (table : Bytes) → Named (read_table table)
unfolding read_table
table_named table = go (leb (length table) 1048576)
  where
    go : (u : Bool) → Named (if u then read_lines (split_at 10 table) else None)
    go true = lines_named (split_at 10 table)
    go false = no_rules

-- ---- the size of the public suffix by two numbers

filter_named : (p : Rule → Bool) (rs : List Rule) → all named rs ≡ true → all named (filter_by p rs) ≡ true
unfolding all filter_by
filter_named p [] a = refl
filter_named p (r ∷ rs) a = go (p r) ((and-eq-true_iff (named r) (all named rs)).0 a) (filter_named p rs)
  where
    go : (u : Bool) → (named r ≡ true) × (all named rs ≡ true) → (all named rs ≡ true → all named (filter_by p rs) ≡ true) → all named (if u then r ∷ filter_by p rs else filter_by p rs) ≡ true
    go true a ih = (and-eq-true_iff (named r) (all named (filter_by p rs))).1 (a.0, ih a.1)
    go false a ih = ih a.1

filter_passes : (p : Rule → Bool) (rs : List Rule) → all p (filter_by p rs) ≡ true
unfolding all filter_by
filter_passes p [] = refl
filter_passes p (r ∷ rs) = go (p r) refl (filter_passes p rs)
  where
    go : (u : Bool) → p r ≡ u → all p (filter_by p rs) ≡ true → all p (if u then r ∷ filter_by p rs else filter_by p rs) ≡ true
    go true e ih = rw (e, ih)
    go false e ih = ih

filter_empty : (p : Rule → Bool) (rs : List Rule) → filter_by p rs ≡ [] → all (λ r. not (p r)) rs ≡ true
unfolding all filter_by
filter_empty p [] e = refl
filter_empty p (r ∷ rs) e = go (p r) refl e (filter_empty p rs)
  where
    go : (u : Bool) → p r ≡ u → (if u then r ∷ filter_by p rs else filter_by p rs) ≡ [] → (filter_by p rs ≡ [] → all (λ r. not (p r)) rs ≡ true)
        → (not (p r) && all (λ r. not (p r)) rs) ≡ true
    go true f e ih = let z : ◌≡◌ {A = ℕ} 0 1 = cc in absurd (omega arith)
    go false f e ih = rw (f, ih e)

-- the rule with most labels: its number of labels, and what holds of every rule holds of it
pub record Most (rs : List Rule) : Type 0 where
  pub rule : Rule
  pub is : most_labels rs ≡ Some rule
  pub count : length rule.names ≡ max_labels rs
  pub passes : (p : Rule → Bool) → all p rs ≡ true → p rule ≡ true

longest_none : most_labels [] ≡ None
unfolding most_labels
longest_none = refl

max_none : max_labels [] ≡ 0
unfolding max_labels
max_none = refl

longest_one : (r : Rule) → most_labels (r ∷ []) ≡ Some r
unfolding most_labels
longest_one r = refl

longest_more : (r : Rule) (rs : List Rule) → most_labels (r ∷ rs) ≡ Some (longer r (most_labels rs))
unfolding most_labels
longest_more r rs = refl

most : (r : Rule) (rs : List Rule) → Most (r ∷ rs)
unfolding max_labels all
most r [] = record { rule = r; is = longest_one r; count = omega arith; passes = λ p a. ((and-eq-true_iff (p r) true).0 a).0 }
most r (s ∷ rs) = go (most s rs) (ltb (length r.names) (length (most s rs).rule.names)) refl
  where
    go : (M : Most (s ∷ rs)) (u : Bool) → ltb (length r.names) (length M.rule.names) ≡ u → Most (r ∷ s ∷ rs)
    go M true e = record {
      rule = M.rule;
      is = rw (longest_more r (s ∷ rs), M.is, e);
      count = omega (arith, M.count, ltb-true (length r.names) (length M.rule.names) e);
      passes = λ p a. M.passes p ((and-eq-true_iff (p r) (all p (s ∷ rs))).0 a).1;
    }
    go M false e = record {
      rule = r;
      is = rw (longest_more r (s ∷ rs), M.is, e);
      count = omega (arith, M.count, ltb-false (length r.names) (length M.rule.names) e);
      passes = λ p a. ((and-eq-true_iff (p r) (all p (s ∷ rs))).0 a).0;
    }

-- a rule has a label, so has the one with most
some_labels : (r : Rule) (rs : List Rule) → all named (r ∷ rs) ≡ true → 1 ≤ max_labels (r ∷ rs)
unfolding all max_labels
some_labels r rs a = omega (arith, leb-true 1 (length r.names) ((and-eq-true_iff (named r) (all named rs)).0 a).0)

size_is : (rs : List Rule) → all named rs ≡ true → suffix_size (prevailing rs) ≡ size_of (max_labels (filter_by (λ r. r.exception) rs)) (max_labels rs)
size_is rs a = go (filter_by (λ r. r.exception) rs) refl (filter_named (λ r. r.exception) rs a) rs refl
  where
    go : (es : List Rule) → filter_by (λ r. r.exception) rs ≡ es → all named es ≡ true → (ms : List Rule) → rs ≡ ms
        → suffix_size (prevailing rs) ≡ size_of (max_labels es) (max_labels rs)
    go (e ∷ es) f b ms g = unfold prevailing suffix_size size_of in
        (let M = most e es in
        let x : M.rule.exception ≡ true = M.passes (λ r. r.exception) (rw f at (filter_passes (λ r. r.exception) rs)) in
        rw (f, M.is, x, M.count, lt-ltb 0 (max_labels (e ∷ es)) (some_labels e es b)))
    go [] f b [] g = unfold prevailing suffix_size size_of max_labels most_labels in (rw (f, g))
    go [] f b (r ∷ ms) g = unfold prevailing suffix_size size_of in
        (let M = most r ms in
        let x : M.rule.exception ≡ false = not-true M.rule.exception (M.passes (λ r. not r.exception) (rw g at (filter_empty (λ r. r.exception) rs f))) in
        rw (f, g, longest_none, max_none, M.is, x, M.count, ne_eqb (max_labels (r ∷ ms)) 0 (λ z. omega (arith, some_labels r ms (rw g at a)))))

pub size_exception : (e m : ℕ) → 0 < e → e - 1 ≡ size_of e m
unfolding size_of
size_exception e m h = rw (lt-ltb 0 e h)

pub size_most : (e m : ℕ) {r : ℕ} → e ≤ 0 → r ≡ max m 1 → r ≡ size_of e m
unfolding size_of
size_most e m {r} h k = rw (le-ltb 0 e h) (go (eqb m 0) refl)
  where
    go : (u : Bool) → eqb m 0 ≡ u → r ≡ (if u then 1 else m)
    go true z = omega (arith, k, eqb-true m 0 z)
    go false z = omega (arith, k, eqb-false m 0 z)

-- ---- what the pass says of the table

pub record Found (table host : Bytes) (n : ℕ) : Type 0 where
  pub rules : List Rule
  pub read : read_table table ≡ Some rules
  pub size : suffix_size (prevailing (filter_by (matches (labels host)) rules)) ≡ n

pub found : (table host : Bytes) (e m : ℕ) → sized e m ≡ best_of (labels host) (read_table table) → Found table host (size_of e m)
found table host e m q = go (read_table table) refl (table_named table) q
  where
    go : (o : Option (List Rule)) → read_table table ≡ o → Named o → sized e m ≡ best_of (labels host) o → Found table host (size_of e m)
    go None t a q = unfold best_of in (let z : ◌≡◌ {A = ℕ} 0 1 = cc in absurd (omega arith))
    go (Some rs) t (have_names a) q = unfold best_of sizes in
        (let ms = filter_by (matches (labels host)) rs in
        let p = same_sizes q in
        let x : max_labels (filter_by (λ r. r.exception) ms) ≡ e = sym p.0 in
        let y : max_labels ms ≡ m = sym p.1 in
        record { rules = rs; read = t; size = size_is ms (filter_named (matches (labels host)) rs a) ∙ ap₂ size_of x y })

pub bad_table : (table host : Bytes) → None ≡ best_of (labels host) (read_table table) → read_table table ≡ None
bad_table table host q = go (read_table table) q
  where
    go : (o : Option (List Rule)) → None ≡ best_of (labels host) o → o ≡ None
    go None q = refl
    go (Some rs) q = unfold best_of sizes in (let z : ◌≡◌ {A = ℕ} 0 1 = cc in absurd (omega arith))

-- ---- the ways out of the code

pub none_at : (table host : Bytes) → private_label table host ≡ None → LabelAt table host (length host)
none_at table host e = record { inside = omega arith; is = drop-length host ∙ rw e }

module _ (table host : Bytes) where
  no_size : (rules : List Rule) → is_address (labels host) ≡ true → label_under rules host ≡ None
  unfolding label_under private_labels
  no_size rules d = rw d

  pub at_malformed : {a : Bool} → a ≡ is_host host → a ≡ false → LabelAt table host (length host)
  unfolding private_label
  at_malformed a b = none_at table host (rw (← a, b))

  pub at_address : {a : Bool} → a ≡ is_address (labels host) → a ≡ true → LabelAt table host (length host)
  unfolding private_label
  at_address a b = none_at table host (go (is_host host) (read_table table))
    where
      go : (u : Bool) (o : Option (List Rule)) → (if u then (o >>= λ rules. label_under rules host) else None) ≡ None
      go false o = refl
      go true None = refl
      go true (Some rules) = no_size rules (sym a ∙ b)

  pub at_bad : {q : Option Sizes} → q ≡ best_of (labels host) (read_table table) → q ≡ None → LabelAt table host (length host)
  unfolding private_label
  at_bad q b = none_at table host (go (is_host host))
    where
      go : (u : Bool) → (if u then (read_table table >>= λ rules. label_under rules host) else None) ≡ None
      go false = refl
      go true = rw (bad_table table host (sym b ∙ q))

  module _ {a d : Bool} {q : Option Sizes} {e m n k : ℕ} (h : a ≡ is_host host) (h' : a ≡ true) (i : d ≡ is_address (labels host)) (i' : d ≡ false)
      (t : q ≡ best_of (labels host) (read_table table)) (t' : q ≡ sized e m) (s : n ≡ size_of e m) (c : k ≡ length (labels host)) where
    F : Found table host (size_of e m)
    F = found table host e m (sym t' ∙ t)

    suffix_length : length (public_suffix F.rules (labels host)) ≡ length (labels host) - (length (labels host) - n)
    unfolding public_suffix last_of
    suffix_length = rw (F.size, ← s) (length-drop (length (labels host) - n) (labels host))

    opened : private_label table host ≡ label_under F.rules host
    unfolding private_label
    opened = let x : is_host host ≡ true = sym h ∙ h' in rw (x, F.read)

    pub at_whole : k ≤ n → LabelAt table host (length host)
    unfolding label_under private_labels
    at_whole l = none_at table host (opened ∙ rw (sym i ∙ i', le-leb (length (labels host)) (length (public_suffix F.rules (labels host))) (omega (arith, suffix_length))))

    pub labelled : n < k → private_label table host ≡ Some (join_with 46 (last_of (n + 1) (labels host)))
    unfolding label_under private_labels
    labelled l =
        let z : length (public_suffix F.rules (labels host)) ≡ n = omega (arith, suffix_length) in
        opened ∙ rw (sym i ∙ i', z, lt-leb (length (labels host)) n (omega arith))

    pub at_label : {r : ℕ} → n < k → Stands (last_of (n + 1) (labels host)) host r → LabelAt table host r
    at_label l S = record { inside = S.inside; is = S.is ∙ sym (ap or_empty (labelled l)) }
