-- The answer of the pass: the label, and whether a rule goes deeper. Assumes nothing.
use mathlib.Core.Path.{◌≡◌, refl, sym, ap, ◌∙◌}
use mathlib.Core.Bool.{Bool, true, false}
use mathlib.Core.List.{List, []}
use Rattle.std.specs.Prelude.{Option, None, Some, is_some}
use Prim.Native.Nat.{ℕ, ◌+◌, ◌-◌, ◌≤◌, ◌<◌}
use native.Mathlib.Omega.{arith}
use lib.ListN.{length, take, drop}
use lib.Seq.{drop-length}
use lib.Dec.{leb, ltb}
use borrow.Author.Tests.{le-leb, le-ltb, lt-ltb, ltb-true, leb-true}
use Rattle.ascii.specs.Ascii.{Bytes, is_none, last_of, join_with}
use Rattle.hosts.specs.Host.{labels, is_host, is_address}
use Rattle.hosts.specs.code.Place.{Stands}
use Rattle.hosts.proofs.Ends.{both_ways}
use Rattle.hosts.proofs.Places.{rest_whole}
use Rattle.suffix.specs.Suffix.{Rule, read_table, private_label, or_empty}
use Rattle.suffix.specs.code.Pass.{best_of, size_of, LabelAt}
use Rattle.suffix.specs.code.Deeper.{deeper_in, is_deeper}
use Rattle.suffix.specs.code.Depth.{deepest}
use Rattle.suffix.proofs.Climbs.{any_depth}
use Rattle.suffix.proofs.Speed.{last_names}
use Rattle.suffix.proofs.Answers.{at_malformed, at_address, at_bad, at_whole, labelled}
use Rattle.suffix.proofs.Lines.{is_told}
use borrow.Author.Rules.{rules}
use Rattle.std.proofs.lemmas.Option.{none-some}
use Rattle.suffix.proofs.Owned.{label_some}
use Rattle.label_lookup.specs.code.Answer.{depths_of, LabelFound, LookupIs, unread, unlabelled, looked_up}
use Rattle.label_lookup.specs.declared.Lookup.{Lookup}
use Rattle.label_lookup.specs.declared.Depths.{Depths}
use Rattle.label_lookup.proofs.RoundLaws.{depth_in, best_in}

-- ---- the answer

no_label : (table host : Bytes) → LabelAt table host (length host) → private_label table host ≡ None
no_label table host L = go (private_label table host) refl (sym (drop-length host) ∙ L.is)
  where
    go : (o : Option Bytes) → private_label table host ≡ o → [] ≡ or_empty o → o ≡ None
    go None p e = refl
    go (Some l) p e = absurd (omega (arith, ap length e, label_some table host l p))

module _ (table host : Bytes) where
  pub lookup_bad : {q : Option Depths} → q ≡ depths_of (labels host) (read_table table) → q ≡ None → LookupIs table host None
  lookup_bad t w = unread (go (read_table table) (sym w ∙ t))
    where
      go : (o : Option (List Rule)) → None ≡ depths_of (labels host) o → o ≡ None
      go None e = refl
      go (Some rs) e = unfold depths_of in (let z : ◌≡◌ {A = ℕ} 0 1 = cc in absurd (omega arith))

  good_table : (f : Depths) (o : Option (List Rule)) → Some f ≡ depths_of (labels host) o → is_none o ≡ false
  unfolding depths_of
  good_table f None e = let z : ◌≡◌ {A = ℕ} 0 1 = cc in absurd (omega arith)
  good_table f (Some rs) e = refl

  pub to_best : (f : Depths) (o : Option (List Rule)) → Some f ≡ depths_of (labels host) o → Some f.sizes ≡ best_of (labels host) o
  unfolding best_of depths_of
  to_best f None e = let z : ◌≡◌ {A = ℕ} 0 1 = cc in absurd (omega arith)
  to_best f (Some rs) e = ap best_in e

  to_depth : (f : Depths) (k : ℕ) (o : Option (List Rule)) → Some f ≡ depths_of (labels host) o → 1 ≤ k → k ≤ length (labels host) → leb k f.depth ≡ deeper_in (last_of k (labels host)) o
  unfolding depths_of deeper_in
  to_depth f k None e h l = let z : ◌≡◌ {A = ℕ} 0 1 = cc in absurd (omega arith)
  to_depth f k (Some rs) e h l = let x : f.depth ≡ deepest (labels host) rs = ap depth_in e in rw x (sym (any_depth k (labels host) rs h l))

  leb_ltb : (n d : ℕ) → ltb n d ≡ leb (n + 1) d
  leb_ltb n d = both_ways (ltb n d) (leb (n + 1) d) (λ t. let x = ltb-true n d t in le-leb (n + 1) d (omega arith)) (λ t. let x = leb-true (n + 1) d t in lt-ltb n d (omega arith))

  -- facts without the names of the answers that tell them, so that only the first premise of each law holds unknowns
  pub found_told : {q : Option Depths} {f : Depths} → q ≡ Some f → q ≡ depths_of (labels host) (read_table table) → Some f ≡ depths_of (labels host) (read_table table)
  found_told t' t = sym t' ∙ t

  pub name_told : {b : Bool} → b ≡ is_address (labels host) → b ≡ false → is_address (labels host) ≡ false
  name_told i i' = sym i ∙ i'

  pub fewer_told : {n k : ℕ} → k ≡ length (labels host) → n < k → n < length (labels host)
  fewer_told c l = omega arith

  module _ {f : Depths} (t : Some f ≡ depths_of (labels host) (read_table table)) where
    good_is : is_none (read_table table) ≡ false
    good_is = good_table f (read_table table) t

    best : Some f.sizes ≡ best_of (labels host) (read_table table)
    best = to_best f (read_table table) t

    unlabelled_at : LabelAt table host (length host) → LookupIs table host (Some None)
    unlabelled_at L = unlabelled good_is (no_label table host L)

    pub lookup_malformed : {a : Bool} → a ≡ is_host host → a ≡ false → LookupIs table host (Some None)
    lookup_malformed h h' = unlabelled_at (at_malformed table host h h')

    pub lookup_address : {b : Bool} → b ≡ is_address (labels host) → b ≡ true → LookupIs table host (Some None)
    lookup_address i i' = unlabelled_at (at_address table host i i')

    module _ {n : ℕ} (s : n ≡ size_of f.sizes.exception f.sizes.most) (h : is_host host ≡ true) (i : is_address (labels host) ≡ false) where
      pub lookup_whole : {k : ℕ} → k ≡ length (labels host) → k ≤ n → LookupIs table host (Some None)
      lookup_whole c l = unlabelled_at (at_whole table host (sym h) refl (sym i) refl best refl s c l)

      module _ {r : ℕ} (l : n < length (labels host)) (S : Stands (last_of (n + 1) (labels host)) host r) (x : Lookup) (p : x.label.now ≡ take (length host - r) (drop r host)) where
        its_label : x.label.now ≡ join_with 46 (last_of (n + 1) (labels host))
        its_label = p ∙ rest_whole host r ∙ S.is

        label_is : private_label table host ≡ Some x.label.now
        label_is = labelled table host (sym h) refl (sym i) refl best refl s refl l ∙ ap Some (sym its_label)

        past_is : ltb n f.depth ≡ is_deeper table x.label.now
        past_is = leb_ltb n f.depth ∙ to_depth f (n + 1) (read_table table) t (omega arith) (omega arith) ∙ sym (rw its_label deep)
          where
            deep : is_deeper table (join_with 46 (last_of (n + 1) (labels host))) ≡ deeper_in (last_of (n + 1) (labels host)) (read_table table)
            deep = unfold is_deeper in (ap (λ (ls : List Bytes). deeper_in ls (read_table table)) (last_names host (n + 1) (omega arith)))

        pub lookup_deeper : x.deeper ≡ Some f.sizes → n < f.depth → LookupIs table host (Some (Some x))
        lookup_deeper e d = looked_up {l = x} good_is (record {
          label_is = label_is;
          deeper_is = ap is_some e ∙ sym (lt-ltb n f.depth d) ∙ past_is;
          found = λ z t. sym t ∙ e ∙ best;
        })

        pub lookup_label : x.deeper ≡ None → f.depth ≤ n → LookupIs table host (Some (Some x))
        lookup_label e d = looked_up {l = x} good_is (record {
          label_is = label_is;
          deeper_is = ap is_some e ∙ sym (le-ltb n f.depth d) ∙ past_is;
          found = λ z t. absurd (none-some z (sym e ∙ t));
        })

-- ---- what a lookup tells

-- of a host that has a private label, where the table is good
pub record Looked (table host : Bytes) (l : Lookup) : Type 0 where
  pub good : is_none (read_table table) ≡ false
  pub label : LabelFound table host l

module _ {table host : Bytes} {q : Option (Option Lookup)} (Q : LookupIs table host q) where
  pub looked_bad : q ≡ None → read_table table ≡ None
  looked_bad e = go Q e
    where
      go : {q : Option (Option Lookup)} → LookupIs table host q → q ≡ None → read_table table ≡ None
      go (unread t) e = t
      go (unlabelled g p) e = let z : ◌≡◌ {A = ℕ} 0 1 = cc in absurd (omega arith)
      go (looked_up g L) e = let z : ◌≡◌ {A = ℕ} 0 1 = cc in absurd (omega arith)

  module _ {x : Option Lookup} (f : q ≡ Some x) where
    pub looked_none : x ≡ None → (is_none (read_table table) ≡ false) × (private_label table host ≡ None)
    looked_none e = go Q f e
      where
        go : {q : Option (Option Lookup)} {x : Option Lookup} → LookupIs table host q → q ≡ Some x → x ≡ None → (is_none (read_table table) ≡ false) × (private_label table host ≡ None)
        go (unread t) f e = let z : ◌≡◌ {A = ℕ} 0 1 = cc in absurd (omega arith)
        go (unlabelled g p) f e = (g, p)
        go (looked_up g L) f e = let z : ◌≡◌ {A = ℕ} 0 1 = cc in absurd (omega arith)

    pub looked : {l : Lookup} → x ≡ Some l → Looked table host l
    looked {l} e = go Q f e
      where
        go : {q : Option (Option Lookup)} {x : Option Lookup} → LookupIs table host q → q ≡ Some x → x ≡ Some l → Looked table host l
        go (unread t) f e = let z : ◌≡◌ {A = ℕ} 0 1 = cc in absurd (omega arith)
        go (unlabelled g p) f e = let z : ◌≡◌ {A = ℕ} 0 1 = cc in absurd (omega arith)
        go (looked_up {l = m} g L) f e = let z : m ≡ l = cc in record { good = g; label = rw z at L }

  -- ---- the label alone

  pub label_bad : q ≡ None → None ≡ private_label table host
  label_bad e = sym (no_label table host (at_bad table host {q = best_of (labels host) (read_table table)} refl (rw (looked_bad e) none_best)))
    where
      none_best : best_of (labels host) None ≡ None
      none_best = unfold best_of in refl

  pub label_none : {x : Option Lookup} → q ≡ Some x → x ≡ None → None ≡ private_label table host
  label_none f e = sym (looked_none f e).1

  pub label_told : {x : Option Lookup} {l : Lookup} {w : Bytes} → q ≡ Some x → x ≡ Some l → w ≡ l.label.now → Some w ≡ private_label table host
  label_told f e h = ap Some h ∙ sym (looked f e).label.label_is

module _ (table host : Bytes) where
  pub label_malformed : {a : Bool} → a ≡ is_host host → a ≡ false → None ≡ private_label table host
  label_malformed h h' = sym (no_label table host (at_malformed table host h h'))

  pub label_address : {b : Bool} → b ≡ is_address (labels host) → b ≡ true → None ≡ private_label table host
  label_address i i' = sym (no_label table host (at_address table host i i'))

-- its premises in an order in which each fixes the next one's unknowns
pub ruleset lookup_laws = (lookup_bad, lookup_malformed, lookup_address, lookup_whole, is_told, found_told, name_told, fewer_told, lookup_deeper, lookup_label, rules)

-- of `find_label`
pub ruleset label_laws = (label_malformed, label_address, label_bad, label_none, label_told, rules)
