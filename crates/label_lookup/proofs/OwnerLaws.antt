-- The owner: its label, and what is held where rules go deeper. Assumes nothing.
use mathlib.Core.Path.{◌≡◌, sym, ap, ◌∙◌}
use Rattle.std.specs.Prelude.{Option, None, Some, is_some}
use borrow.Author.Rules.{rules}
use Rattle.std.proofs.lemmas.Option.{none-some}
use Rattle.ascii.specs.declared.Span.{Span}
use Rattle.ascii.specs.Ascii.{Bytes}
use Rattle.suffix.specs.declared.Sizes.{Sizes}
use Rattle.label_lookup.specs.code.Answer.{LookupIs}
use Rattle.label_lookup.specs.code.Span.{Spans, Held, no_label, has_label, OwnerIs, bad_table, owner_is}
use Rattle.label_lookup.specs.declared.Deeper.{Deeper}
use Rattle.label_lookup.specs.declared.Lookup.{Lookup}
use Rattle.label_lookup.specs.declared.Owner.{Owner}
use Rattle.label_lookup.proofs.LookLaws.{Looked, looked_bad, looked_none, looked}

abbrev owner : Lookup → Option Deeper → Owner
owner l d = record { label = l.label; deeper = d }

abbrev deeper_in : Deeper → Option Deeper → Deeper
deeper_in d None = d
deeper_in d (Some e) = e

module _ {table host : Bytes} {q : Option (Option Lookup)} (Q : LookupIs table host q) where
  pub owner_bad : q ≡ None → OwnerIs table host None
  owner_bad e = bad_table (looked_bad Q e)

  module _ {x : Option Lookup} (f : q ≡ Some x) where
    pub owner_none : x ≡ None → OwnerIs table host (Some None)
    owner_none e = let N = looked_none Q f e in owner_is N.0 (no_label N.1)

    module _ {l : Lookup} (e : x ≡ Some l) where
      L : Looked table host l
      L = looked Q f e

      pub owner_label : l.deeper ≡ None → OwnerIs table host (Some (Some (owner l None)))
      owner_label d = owner_is L.good (has_label (record {
        label_is = L.label.label_is;
        present_is = sym (ap is_some d) ∙ L.label.deeper_is;
        held = λ h t. absurd (none-some h t);
      }))

      pub owner_deeper : {z : Sizes} {r : Span} → l.deeper ≡ Some z → Spans table l.label.now r.from r.to → OwnerIs table host (Some (Some (owner l (Some (record { sizes = z; span = r })))))
      owner_deeper {z} {r} d S = owner_is L.good (has_label (record {
        label_is = L.label.label_is;
        present_is = sym (ap is_some d) ∙ L.label.deeper_is;
        held = λ h t. rw (← ap (deeper_in h) t) whole;
      }))
        where
          whole : Held table host l.label.now (record { sizes = z; span = r })
          whole = record { label_is = L.label.label_is; found = sym (L.label.found z d); spans = S }

pub ruleset owner_laws = (owner_bad, owner_none, owner_label, owner_deeper, rules)
