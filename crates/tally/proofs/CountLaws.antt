-- The counts of the entries, entry after entry.
use Rattle.std.specs.Prelude.{if◌then◌else◌, Option, None, Some}
use mathlib.Core.Path.{◌≡◌, refl, sym, ap, ◌∙◌}
use mathlib.Core.List.{List, [], ◌∷◌}
use Prim.Native.Nat.{ℕ, suc, ◌+◌, ◌≤◌}
use native.Mathlib.Omega.{arith}
use lib.Dec.{eqb}
use lib.ListN.{length}
use Rattle.ascii.specs.Ascii.{Bytes, filter_by}
use Rattle.entries.specs.Causes.{cause}
use Rattle.entries.specs.code.Selecting.{listed}
use Rattle.entries.specs.declared.selected.Selected.{Selected}
use Rattle.entries.specs.declared.Cause.{Cause}
use Rattle.entries.specs.declared.Cause.TheVariants.{TooLong, OtherScheme, NotFacet, OtherLabel}
use Rattle.entries.proofs.Walks.{list_short}
use Rattle.tally.specs.Tally.{cause_number, Counts, count_of, counts}
use Rattle.tally.specs.code.Meaning.{counts_of, one, plus, Under}
use Rattle.tally.specs.declared.Counts.{Counts as Held}

-- ---- adding counts

same_counts : (a b : Counts) → a.kept ≡ b.kept → a.too_long ≡ b.too_long → a.other_scheme ≡ b.other_scheme → a.not_facet ≡ b.not_facet → a.other_label ≡ b.other_label → a ≡ b
same_counts a b k l s f o = numbers k l s f o
  where
    numbers : {k l s f o k' l' s' f' o' : ℕ} → k ≡ k' → l ≡ l' → s ≡ s' → f ≡ f' → o ≡ o'
        → ◌≡◌ {A = Counts} (record { kept = k; too_long = l; other_scheme = s; not_facet = f; other_label = o }) (record { kept = k'; too_long = l'; other_scheme = s'; not_facet = f'; other_label = o' })
    numbers k l s f o = rw (k, l, s, f, o)

abbrev nothing : Held
nothing = record { kept = 0; long = 0; scheme = 0; facet = 0; label = 0 }

plus_nothing : (c : Counts) → plus (counts_of nothing) c ≡ c
unfolding plus counts_of
plus_nothing c = same_counts _ _ (omega arith) (omega arith) (omega arith) (omega arith) (omega arith)

plus_none : (c : Counts) → plus c (counts_of nothing) ≡ c
unfolding plus counts_of
plus_none c = same_counts _ _ (omega arith) (omega arith) (omega arith) (omega arith) (omega arith)

plus_assoc : (a b c : Counts) → plus (plus a b) c ≡ plus a (plus b c)
unfolding plus
plus_assoc a b c = same_counts _ _ (omega arith) (omega arith) (omega arith) (omega arith) (omega arith)

counts_none : (appid table : Bytes) → counts appid table [] ≡ counts_of nothing
unfolding counts count_of filter_by counts_of
counts_none appid table = refl

counts_more : (appid table e : Bytes) (es : List Bytes) → counts appid table (e ∷ es) ≡ plus (one (cause appid table e)) (counts appid table es)
unfolding counts count_of filter_by plus one
counts_more appid table e es = go (cause appid table e)
  where
    those : Option Cause → ℕ → List Bytes
    those c k = if eqb (cause_number c) k then e ∷ filter_by (λ x. eqb (cause_number (cause appid table x)) k) es else filter_by (λ x. eqb (cause_number (cause appid table x)) k) es

    all : Option Cause → Counts
    all c = record { kept = length (those c 0); too_long = length (those c 1); other_scheme = length (those c 2); not_facet = length (those c 3); other_label = length (those c 4) }

    go : (c : Option Cause) → all c ≡ plus (one c) (counts appid table es)
    go None = same_counts _ _ (omega arith) (omega arith) (omega arith) (omega arith) (omega arith)
    go (Some TooLong) = same_counts _ _ (omega arith) (omega arith) (omega arith) (omega arith) (omega arith)
    go (Some OtherScheme) = same_counts _ _ (omega arith) (omega arith) (omega arith) (omega arith) (omega arith)
    go (Some NotFacet) = same_counts _ _ (omega arith) (omega arith) (omega arith) (omega arith) (omega arith)
    go (Some OtherLabel) = same_counts _ _ (omega arith) (omega arith) (omega arith) (omega arith) (omega arith)

-- ---- one entry more

module _ (c : Held) {x : Option Cause} where
  pub add_kept : x ≡ None → counts_of (record { kept = c.kept + 1; long = c.long; scheme = c.scheme; facet = c.facet; label = c.label }) ≡ plus (counts_of c) (one x)
  unfolding counts_of plus one
  add_kept h = rw h (same_counts _ _ (omega arith) (omega arith) (omega arith) (omega arith) (omega arith))

  pub add_long : x ≡ Some TooLong → counts_of (record { kept = c.kept; long = c.long + 1; scheme = c.scheme; facet = c.facet; label = c.label }) ≡ plus (counts_of c) (one x)
  unfolding counts_of plus one
  add_long h = rw h (same_counts _ _ (omega arith) (omega arith) (omega arith) (omega arith) (omega arith))

  pub add_scheme : x ≡ Some OtherScheme → counts_of (record { kept = c.kept; long = c.long; scheme = c.scheme + 1; facet = c.facet; label = c.label }) ≡ plus (counts_of c) (one x)
  unfolding counts_of plus one
  add_scheme h = rw h (same_counts _ _ (omega arith) (omega arith) (omega arith) (omega arith) (omega arith))

  pub add_facet : x ≡ Some NotFacet → counts_of (record { kept = c.kept; long = c.long; scheme = c.scheme; facet = c.facet + 1; label = c.label }) ≡ plus (counts_of c) (one x)
  unfolding counts_of plus one
  add_facet h = rw h (same_counts _ _ (omega arith) (omega arith) (omega arith) (omega arith) (omega arith))

  pub add_label : x ≡ Some OtherLabel → counts_of (record { kept = c.kept; long = c.long; scheme = c.scheme; facet = c.facet; label = c.label + 1 }) ≡ plus (counts_of c) (one x)
  unfolding counts_of plus one
  add_label h = rw h (same_counts _ _ (omega arith) (omega arith) (omega arith) (omega arith) (omega arith))

-- ---- the loop

-- c counts the entries before these
pub record Counting (l : Selected) (es : List Bytes) (c : Held) : Type 0 where
  pub turns : ℕ
  pub small : Under turns c
  pub few : turns + length es ≤ 65536
  pub is : plus (counts_of c) (counts l.appid.now l.table.now es) ≡ counts l.appid.now l.table.now (listed l)

under_more : {n : ℕ} {c r : Held} (x : Option Cause) → counts_of r ≡ plus (counts_of c) (one x) → Under n c → Under (suc n) r
unfolding counts_of plus
under_more {n} {c} {r} x e U =
    let S = one_small x in
    record {
      kept = omega (arith, ap (λ (c : Counts). c.kept) e, U.kept, S.0);
      long = omega (arith, ap (λ (c : Counts). c.too_long) e, U.long, S.1);
      scheme = omega (arith, ap (λ (c : Counts). c.other_scheme) e, U.scheme, S.2);
      facet = omega (arith, ap (λ (c : Counts). c.not_facet) e, U.facet, S.3);
      label = omega (arith, ap (λ (c : Counts). c.other_label) e, U.label, S.4);
    }
  where
    one_small : (x : Option Cause) → ((one x).kept ≤ 1) × ((one x).too_long ≤ 1) × ((one x).other_scheme ≤ 1) × ((one x).not_facet ≤ 1) × ((one x).other_label ≤ 1)
    one_small None = unfold one in (omega arith, omega arith, omega arith, omega arith, omega arith)
    one_small (Some TooLong) = unfold one in (omega arith, omega arith, omega arith, omega arith, omega arith)
    one_small (Some OtherScheme) = unfold one in (omega arith, omega arith, omega arith, omega arith, omega arith)
    one_small (Some NotFacet) = unfold one in (omega arith, omega arith, omega arith, omega arith, omega arith)
    one_small (Some OtherLabel) = unfold one in (omega arith, omega arith, omega arith, omega arith, omega arith)

pub count_starts : (l : Selected) → Counting l (listed l) (record { kept = 0; long = 0; scheme = 0; facet = 0; label = 0 })
count_starts l = record {
  turns = 0;
  small = record { kept = omega arith; long = omega arith; scheme = omega arith; facet = omega arith; label = omega arith };
  few = omega (arith, list_short l);
  is = plus_nothing (counts l.appid.now l.table.now (listed l));
}

pub count_over : {l : Selected} {c : Held} → Counting l [] c → counts_of c ≡ counts l.appid.now l.table.now (listed l)
count_over {l} {c} S = sym (ap (plus (counts_of c)) (counts_none l.appid.now l.table.now) ∙ plus_none (counts_of c)) ∙ S.is

module _ {l : Selected} {e : Bytes} {es : List Bytes} {c : Held} (S : Counting l (e ∷ es) c) where
  pub count_room : Under 65536 c
  count_room =
      let U = S.small in
      record {
        kept = omega (arith, U.kept, S.few);
        long = omega (arith, U.long, S.few);
        scheme = omega (arith, U.scheme, S.few);
        facet = omega (arith, U.facet, S.few);
        label = omega (arith, U.label, S.few);
      }

  pub count_more : {d : Held} → counts_of d ≡ plus (counts_of c) (one (cause l.appid.now l.table.now e)) → Counting l es d
  count_more {d} a = record { turns = suc S.turns; small = under_more {c = c} {r = d} (cause l.appid.now l.table.now e) a S.small; few = omega (arith, S.few); is = is }
    where
      is : plus (counts_of d) (counts l.appid.now l.table.now es) ≡ counts l.appid.now l.table.now (listed l)
      is =
          ap (λ (y : Counts). plus y (counts l.appid.now l.table.now es)) a
          ∙ plus_assoc (counts_of c) (one (cause l.appid.now l.table.now e)) (counts l.appid.now l.table.now es)
          ∙ ap (plus (counts_of c)) (sym (counts_more l.appid.now l.table.now e es))
          ∙ S.is
