-- Hop by hop, refusal 5 before 6; what record and text settle; the last Location. Assumes nothing.
use Rattle.std.specs.Prelude.{if◌then◌else◌, Option, None, Some, Result, Ok, Err}
use mathlib.Core.Path.{◌≡◌, refl, sym, ap, ◌∙◌}
use mathlib.Core.Bool.{Bool, true, false, ◌&&◌, not, and-eq-true_iff, and-true}
use mathlib.Core.List.{List, [], ◌∷◌, ◌++◌}
use mathlib.Core.Logic.{inl, inr}
use Prim.Native.Nat.{ℕ, zero, suc, ◌+◌, ◌-◌, ◌*◌, ◌≤◌, ◌<◌}
use native.Mathlib.Nat.{eq-or-lt_of_le}
use native.Mathlib.Omega.{arith}
use lib.ListN.{length, take, drop, length-append}
use lib.Seq.{drop_at}
use borrow.Author.Tests.{leb-true}
use Rattle.ascii.specs.Ascii.{Bytes, ◌or_else◌, is_none, all, last_of}
use Rattle.ascii.proofs.ListLaws.{all_both}
use Rattle.origin.specs.Origin.{https_url}
use Rattle.origin.specs.code.Parts.{Reads, authority_in}
use Rattle.origin.specs.declared.Parts.{Parts}
use Rattle.refusals.specs.declared.Refusal.{Refusal}
use Rattle.refusals.specs.declared.Refusal.TheVariants.{BadRecord, OpenRedirect, BadLocation}
use Rattle.fetch_record.specs.Record.{in_text, location, last_location, last_redirect, read_record, hop_refusal, last_hop}
use Rattle.fetch_record.specs.Fetching.{after_hops, by_record, fetching}
use Rattle.fetch_record.specs.code.Meaning.{redirect_in, redirect_at, redirects_in, Placed, layout_read, LayoutPlaced, layout, Lays, hops_read, target, part_in, no_target, target_in, TargetOf, of_none, of_hop, Targets}
use Rattle.fetch_record.specs.declared.item.Redirect.{Redirect}
use Rattle.fetch_record.specs.declared.Layout.{Layout}
use Rattle.ascii.specs.declared.Span.{Span}
use Rattle.fetch_record.proofs.ItemLaws.{body_fields}
use Rattle.fetch_record.proofs.RecordLaws.{redirects_more}

-- ---- the k-th redirect

pub redirect_is : (items : Bytes) (k : ℕ) (h : Redirect) → h ≡ redirect_in (take (8 * k + 8 - (8 * k + 1)) (drop (8 * k + 1) items)) → h ≡ redirect_at k items
unfolding redirect_at
redirect_is items k h e = let z : 8 * k + 8 - (8 * k + 1) ≡ 7 = omega arith in e ∙ rw (z, body_fields)

record Both (lent : Bytes) (hs : List Redirect) (h : Redirect) : Type 0 where
  before : all (in_text lent) hs ≡ true
  last : in_text lent h ≡ true

all_parts : (lent : Bytes) (hs : List Redirect) (h : Redirect) → all (in_text lent) (hs ++ (h ∷ [])) ≡ true → Both lent hs h
unfolding all
all_parts lent hs h e =
    let p = (and-eq-true_iff (all (in_text lent) hs) (in_text lent h && true)).0 (sym (all_both (in_text lent) hs (h ∷ [])) ∙ e) in
    record { before = p.0; last = sym (and-true (in_text lent h)) ∙ p.1 }

inside_at : (items lent : Bytes) (n k : ℕ) → all (in_text lent) (redirects_in n items) ≡ true → k < n → in_text lent (redirect_at k items) ≡ true
unfolding redirects_in
inside_at items lent zero k e h = absurd (omega arith)
inside_at items lent (suc n) k e h =
    let B = all_parts lent (redirects_in n items) (redirect_at n items) e in
    elim (eq-or-lt_of_le {n = k} {m = n} (omega arith)) [
      | inl z ↦ rw z B.last
      | inr l ↦ inside_at items lent n k B.before l
    ]

pub hop_inside : {items lent : Bytes} {n : ℕ} (k : ℕ) (h : Redirect) → Placed items lent n → k < n → h ≡ redirect_at k items → in_text lent h ≡ true
hop_inside {items} {lent} {n} k h P l e = rw e (inside_at items lent n k P.inside l)

pub hop_long : {items lent : Bytes} {n : ℕ} (k : ℕ) → Placed items lent n → k < n → 8 * k + 8 ≤ length items
hop_long k P l = omega (arith, P.long)

-- ---- one hop

module _ (lent : Bytes) (h : Redirect) where
  pub hop_open : h.authorized ≡ false → hops_read (Err OpenRedirect) ≡ hop_refusal lent (h ∷ [])
  unfolding hops_read hop_refusal
  hop_open a = rw a

  pub hop_end : {end : ℕ} → in_text lent h ≡ true → end ≡ h.start + h.size → end ≤ length lent
  unfolding in_text
  hop_end i e = omega (arith, leb-true (h.start + h.size) (length lent) i)

  module _ {start end : ℕ} {q : Option Parts} (a : h.authorized ≡ true) (b : start ≡ h.start) (e : end ≡ h.start + h.size)
      (R : Reads (take (end - start) (drop start lent)) (https_url (take (end - start) (drop start lent))) q) where
    hop_is : hop_refusal lent (h ∷ []) ≡ (if is_none (https_url (take (end - start) (drop start lent))) then Some BadLocation else None)
    unfolding hop_refusal location
    hop_is = let z : end - start ≡ h.size = omega arith in rw (a, z, b)

    pub hop_bad : q ≡ None → hops_read (Err BadLocation) ≡ hop_refusal lent (h ∷ [])
    unfolding hops_read authority_in
    hop_bad f = rw (hop_is, ← R.is, f)

    pub hop_good : {p : Parts} → q ≡ Some p → hops_read (Ok tt) ≡ hop_refusal lent (h ∷ [])
    unfolding hops_read authority_in
    hop_good f = rw (hop_is, ← R.is, f)

-- ---- hop by hop

hops_append : (lent : Bytes) (hs gs : List Redirect) → hop_refusal lent (hs ++ gs) ≡ (hop_refusal lent hs or_else hop_refusal lent gs)
unfolding hop_refusal
hops_append lent [] gs = refl
hops_append lent (h ∷ hs) gs = go (not h.authorized) (is_none (https_url (location lent h))) (hops_append lent hs gs)
  where
    go : (u v : Bool) → hop_refusal lent (hs ++ gs) ≡ (hop_refusal lent hs or_else hop_refusal lent gs)
        → (if u then Some OpenRedirect else if v then Some BadLocation else hop_refusal lent (hs ++ gs))
        ≡ ((if u then Some OpenRedirect else if v then Some BadLocation else hop_refusal lent hs) or_else hop_refusal lent gs)
    go true v ih = refl
    go false true ih = refl
    go false false ih = ih

refused_stays : (items lent : Bytes) (r : Refusal) (n k : ℕ) → k ≤ n → hop_refusal lent (redirects_in k items) ≡ Some r → hop_refusal lent (redirects_in n items) ≡ Some r
unfolding redirects_in
refused_stays items lent r zero k h e = let z : k ≡ 0 = omega arith in rw z at e
refused_stays items lent r (suc n) k h e =
    elim (eq-or-lt_of_le {n = k} {m = suc n} h) [
      | inl z ↦ rw z at e
      | inr l ↦ rw (hops_append, refused_stays items lent r n k (omega arith) e)
    ]

-- the first k redirects passed
pub record Hopping (items lent : Bytes) (n k : ℕ) : Type 0 where
  pub most : k ≤ n
  pub passed : hop_refusal lent (redirects_in k items) ≡ None

pub hops_start : (items lent : Bytes) (n : ℕ) → Hopping items lent n 0
unfolding redirects_in hop_refusal
hops_start items lent n = record { most = omega arith; passed = refl }

module _ {items lent : Bytes} {n k : ℕ} (H : Hopping items lent n k) where
  pub hops_end : n ≤ k → hops_read (Ok tt) ≡ hop_refusal lent (redirects_in n items)
  unfolding hops_read
  hops_end l = let z : k ≡ n = omega arith in sym (rw z at H.passed)

  module _ {h : Redirect} (q : Result Unit Refusal) (l : k < n) (e : h ≡ redirect_at k items) (f : hops_read q ≡ hop_refusal lent (h ∷ [])) where
    one_more : hop_refusal lent (redirects_in (k + 1) items) ≡ hops_read q
    one_more = rw (redirects_more k items, hops_append, H.passed, ← e, f)

    pub hops_refused : {r : Refusal} → q ≡ Err r → hops_read (Err r) ≡ hop_refusal lent (redirects_in n items)
    unfolding hops_read
    hops_refused {r} g = sym (refused_stays items lent r n (k + 1) (omega arith) (one_more ∙ ap hops_read g))

    pub hops_more : {t : Unit} → q ≡ Ok t → Hopping items lent n (k + 1)
    unfolding hops_read
    hops_more g = record { most = omega arith; passed = one_more ∙ ap hops_read g }

-- ---- what record and text settle

placed_in : {items lent : Bytes} {l : Layout} → LayoutPlaced items lent (Some l) → Placed items lent l.count
placed_in (layout P) = P

module _ {items lent : Bytes} {q : Option Layout} (L : Lays items lent q) where
  layout_is : layout_read items q ≡ read_record items lent
  layout_is = L.is

  pub settle_bad : q ≡ None → Err BadRecord ≡ fetching items lent
  unfolding fetching by_record layout_read
  settle_bad e = rw (← layout_is, e)

  -- the last Location
  pub target_bad : q ≡ None → Targets lent (target items lent) (last_hop items lent) None
  unfolding target part_in layout_read
  target_bad e = record { is = rw (← layout_is, e); places = no_target; hop = go }
    where
      go : TargetOf (last_hop items lent) None
      go = unfold last_hop layout_read in (rw (← layout_is, e) of_none)

  module _ {l : Layout} (e : q ≡ Some l) where
    pub layout_placed : Placed items lent l.count
    layout_placed = let M : Lays items lent (Some l) = rw e at L in placed_in M.places

    pub settle_refused : {h : Result Unit Refusal} {r : Refusal} → hops_read h ≡ hop_refusal lent (redirects_in l.count items) → h ≡ Err r → Err r ≡ fetching items lent
    unfolding fetching by_record layout_read after_hops hops_read
    settle_refused f g = rw (← layout_is, e, ← f, g)

    pub settle_passed : {h : Result Unit Refusal} {t : Unit} → hops_read h ≡ hop_refusal lent (redirects_in l.count items) → h ≡ Ok t → Ok l.answer ≡ fetching items lent
    unfolding fetching by_record layout_read after_hops hops_read
    settle_passed f g = rw (← layout_is, e, ← f, g)

    pub target_there : {r : Option Span} → Targets lent (last_location lent (redirects_in l.count items)) (last_redirect (redirects_in l.count items)) r → Targets lent (target items lent) (last_hop items lent) r
    unfolding target last_hop layout_read
    target_there T = record { is = T.is ∙ sym (rw (← layout_is, e)); places = T.places; hop = rw (← layout_is, e) T.hop }

-- ---- the last of n redirects

pub last_none : (items lent : Bytes) (n : ℕ) → n ≡ 0 → Targets lent (last_location lent (redirects_in n items)) (last_redirect (redirects_in n items)) None
unfolding part_in last_location last_redirect last_of redirects_in
last_none items lent n e = record { is = rw e; places = no_target; hop = rw e of_none }

last_snoc : (lent : Bytes) (hs : List Redirect) (h : Redirect) → last_location lent (hs ++ (h ∷ [])) ≡ Some (location lent h)
unfolding last_location last_of
last_snoc lent hs h = rw (drop_at hs (h ∷ []) (length (hs ++ (h ∷ [])) - 1) (omega (arith, length-append hs (h ∷ []))))

last_is : (items lent : Bytes) (n : ℕ) → (n ≡ 0 → ⊥) → last_location lent (redirects_in n items) ≡ Some (location lent (redirect_at (n - 1) items))
unfolding redirects_in
last_is items lent zero z = absurd (z refl)
last_is items lent (suc m) z = let e : suc m - 1 ≡ m = omega arith in rw (last_snoc lent (redirects_in m items) (redirect_at m items), e)

hop_snoc : (hs : List Redirect) (h : Redirect) → last_redirect (hs ++ (h ∷ [])) ≡ Some h
unfolding last_redirect last_of
hop_snoc hs h = rw (drop_at hs (h ∷ []) (length (hs ++ (h ∷ [])) - 1) (omega (arith, length-append hs (h ∷ []))))

last_hop_lem : (items : Bytes) (n : ℕ) → (n ≡ 0 → ⊥) → last_redirect (redirects_in n items) ≡ Some (redirect_at (n - 1) items)
unfolding redirects_in
last_hop_lem items zero z = absurd (z refl)
last_hop_lem items (suc m) z = let e : suc m - 1 ≡ m = omega arith in rw (hop_snoc (redirects_in m items) (redirect_at m items), e)

pub last_part : {items lent : Bytes} {n : ℕ} {t : Span} (h : Redirect) → Placed items lent n → (n ≡ 0 → ⊥) → h ≡ redirect_at (n - 1) items → t.from ≡ h.start → t.to ≡ h.start + h.size → h.start < 65536 → h.size < 65536
    → Targets lent (last_location lent (redirects_in n items)) (last_redirect (redirects_in n items)) (Some t)
unfolding part_in location
last_part {items} {lent} {n} {t} h P z e g f s u =
    let y : t.to - t.from ≡ h.size = omega arith in
    record {
      is = rw (last_is items lent n z, ← e, y, g);
      places = target_in (omega arith) (hop_end lent h (hop_inside (n - 1) h P (omega arith) e) f);
      hop = rw (last_hop_lem items n z, ← e) (of_hop g f (omega arith) (omega arith));
    }

pub last_long : {items lent : Bytes} {n : ℕ} → Placed items lent n → (n ≡ 0 → ⊥) → 8 * (n - 1) + 8 ≤ length items
last_long P z = omega (arith, P.long)
