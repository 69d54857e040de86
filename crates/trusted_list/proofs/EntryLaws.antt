-- Going through the entries gives the selected list, whatever blanks and escapes the body uses.
use Rattle.std.specs.Prelude.{if◌then◌else◌, Option, None, Some, slice_get}
use mathlib.Core.Path.{◌≡◌, refl, sym, ap, ◌∙◌}
use mathlib.Core.Bool.{Bool, true, false}
use mathlib.Core.List.{List, [], ◌∷◌}
use Prim.Native.Nat.{ℕ, zero, suc, ◌+◌}
use native.Mathlib.Omega.{arith}
use lib.Dec.{eqb}
use borrow.Author.Tests.{eqb-true, eqb-false}
use lib.ListN.{length, drop}
use Rattle.ascii.specs.Ascii.{Bytes, among, ◌>>=◌ as ◌then◌}
use Rattle.json_text.specs.Reader.{Read, got, bad, Reader, ◌>>◌, give, fail, one_of, if_next◌then◌else◌, mapped, counted}
use Rattle.json_text.specs.Lexical.{ws, read_string}
use Rattle.json_text.specs.code.Places.{Peeked, read_at, place_of}
use Rattle.json_text.proofs.Steps.{wide, seen, peeks, on, then_bad, one_yes, one_no, next_yes, next_no, give_at, fail_at, giving_at, counted_at, is_one, not_one}
use Rattle.json_text.proofs.TakenApart.{bound}
use Rattle.json_values.specs.Json.{Json, string, array, to_items, items, listed, read_value, value_read, value_of, read_array, read_object}
use Rattle.trusted_list.specs.TrustedList.{as_array, as_string, strings, read_ids}
use Rattle.trusted_list.specs.code.Slots.{ids_at, is_string}
use Rattle.trusted_list.specs.code.Entries.{to_first, to_next, first_entry, next_entry, Coming, over, comes}
use Rattle.trusted_list.proofs.FirstByte.{given, array_at, string_first, not_array}

-- ---- the code's steps

module _ {s : Bytes} {p : ℕ} {b : Option ℕ} (g : Peeked s p b) where
  pub first_not : among (91 ∷ []) (wide b) ≡ false → None ≡ first_entry s p
  unfolding first_entry to_first place_of
  first_not n = rw (then_bad _ _ _ _ (one_no g _ n))

  module _ {i : ℕ} {c : Option ℕ} (h : wide b ≡ 91) (e : read_at ws s (p + 1) ≡ got tt i) (f : Peeked s i c) where
    pub first_none : wide c ≡ 93 → None ≡ first_entry s p
    unfolding first_entry to_first place_of
    first_none n = rw (on _ _ _ _ (one_yes g _ (is_one (wide b) 91 h)), on _ _ _ _ e, next_yes f _ _ _ (is_one (wide c) 93 n), fail_at)

    pub first_some : among (93 ∷ []) (wide c) ≡ false → Some i ≡ first_entry s p
    unfolding first_entry to_first place_of
    first_some n = rw (on _ _ _ _ (one_yes g _ (is_one (wide b) 91 h)), on _ _ _ _ e, next_no f _ _ _ n, give_at)

module _ (s : Bytes) (j : ℕ) {k : ℕ} {b : Option ℕ} (e : read_at ws s j ≡ got tt k) (g : Peeked s k b) where
  pub next_none : among (44 ∷ []) (wide b) ≡ false → None ≡ next_entry s j
  unfolding next_entry to_next place_of
  next_none n = rw (on _ _ _ _ e, then_bad _ _ _ _ (one_no g _ n))

  pub next_some : {i : ℕ} → wide b ≡ 44 → read_at ws s (k + 1) ≡ got tt i → Some i ≡ next_entry s j
  unfolding next_entry to_next place_of
  next_some n f = rw (on _ _ _ _ e, on _ _ _ _ (one_yes g _ (is_one (wide b) 44 n)), f)

-- ---- the selected list comes

string_at : {s : Bytes} {i : ℕ} {b : Option ℕ} (g : Peeked s i b) (X Y : Reader Json) → wide b ≡ 34 → read_at (value_of X Y) s i ≡ mapped string (read_at read_string s i)
unfolding read_at value_of if_next◌then◌else◌
string_at {s} {i} g X Y h = rw (← seen g, h) (giving_at read_string string s i)

string_value : {s : Bytes} {i : ℕ} {b : Option ℕ} (g : Peeked s i b) (d : ℕ) → wide b ≡ 34 → read_at (read_value d) s i ≡ mapped string (read_at read_string s i)
unfolding read_value
string_value g zero h = string_at g fail fail h
string_value g (suc d) h = string_at g (read_array (read_value d)) (read_object (read_value d)) h

some_string : (v : Json) {x : Bytes} → as_string v ≡ Some x → is_string v ≡ true
unfolding is_string
some_string v e = rw e

-- a value that is a string, read as one
pub string_read : (s : Bytes) (i d : ℕ) {v : Json} {j : ℕ} {x : Bytes} → read_at (read_value d) s i ≡ got v j → as_string v ≡ Some x → read_at read_string s i ≡ got x j
string_read s i d {v} {j} {x} e f =
    let g : Peeked s i (slice_get s i) = peeks s i in
    let b : wide (slice_get s i) ≡ 34 = eqb-true (wide (slice_get s i)) 34 (sym (string_first g d e) ∙ some_string v f) in
    let G = given string (read_at read_string s i) (sym (string_value g d b) ∙ e) in
    let y : Some G.from ≡ Some x = ap as_string G.is ∙ f in
    let z : G.from ≡ x = cc in
    G.read ∙ ap (λ (t : Bytes). got t j) z

record Strung (v : Json) (vs : List Json) (es : List Bytes) : Type 0 where
  head : Bytes
  rest : List Bytes
  is_head : as_string v ≡ Some head
  is_rest : strings (to_items vs) ≡ Some rest
  whole : es ≡ head ∷ rest

strung : (v : Json) (vs : List Json) {es : List Bytes} → strings (to_items (v ∷ vs)) ≡ Some es → Strung v vs es
unfolding strings to_items
strung v vs {es} e = go (as_string v) refl (strings (to_items vs)) refl e
  where
    go : (o : Option Bytes) → as_string v ≡ o → (p : Option (List Bytes)) → strings (to_items vs) ≡ p → (o then λ x. p then λ xs. Some (x ∷ xs)) ≡ Some es → Strung v vs es
    go None f p g e = let z : ◌≡◌ {A = ℕ} 0 1 = cc in absurd (omega arith)
    go (Some x) f None g e = let z : ◌≡◌ {A = ℕ} 0 1 = cc in absurd (omega arith)
    go (Some x) f (Some xs) g e = let z : x ∷ xs ≡ es = cc in record { head = x; rest = xs; is_head = f; is_rest = g; whole = sym z }

no_strings : {es : List Bytes} → strings (to_items []) ≡ Some es → es ≡ []
unfolding strings to_items
no_strings {es} e = let z : [] ≡ es = cc in sym z

ws_at : (s : Bytes) (i : ℕ) {u : Unit {0}} {k : ℕ} → read_at ws s i ≡ got u k → read_at ws s i ≡ got tt k
ws_at s i e = e

items_none : {A : Type 0} (p : Reader A) (c : Bytes) (s : Bytes) (i : ℕ) {vs : List A} {j : ℕ} → read_at (items p c zero) s i ≡ got vs j → ⊥
unfolding items
items_none {A} p c s i e = let z : ◌≡◌ {A = ℕ} 0 1 = cc (fail_at {A = List A} s i) in omega arith

-- the items of an array of strings, from one of them on
items_come : (s : Bytes) (n i : ℕ) {vs : List Json} {j : ℕ} {es : List Bytes} → read_at (items (read_value 12) (93 ∷ []) n) s i ≡ got vs j → strings (to_items vs) ≡ Some es → Coming s (Some i) es
unfolding items
items_come s zero i e f = absurd (items_none (read_value 12) (93 ∷ []) s i e)
items_come s (suc n) i {vs} {j} {es} e f =
    let a = bound _ _ s i e in
    let b = bound _ _ s a.place a.rest_read in
    let c = bound _ _ s b.place b.rest_read in
    let x : got (a.value ∷ c.value) c.place ≡ got vs j = sym (give_at (a.value ∷ c.value) s c.place) ∙ c.rest_read in
    let y : a.value ∷ c.value ≡ vs = cc in
    let S = strung a.value c.value (ap (λ (l : List Json). strings (to_items l)) y ∙ f) in
    rw S.whole (comes (string_read s i 12 a.first_read S.is_head)
    (behind a.place b.place (ws_at s a.place b.first_read) c.value c.place c.first_read S.rest S.is_rest
    (λ i' vs' j' es' u w. items_come s n i' u w)))
  where
    behind : (m k : ℕ) → read_at ws s m ≡ got tt k → (ws' : List Json) (l : ℕ)
        → read_at (if_next (93 ∷ []) then one_of (93 ∷ []) >> give [] else one_of (44 ∷ []) >> ws >> items (read_value 12) (93 ∷ []) n) s k ≡ got ws' l
        → (rs : List Bytes) → strings (to_items ws') ≡ Some rs
        → ((i' : ℕ) (vs' : List Json) (j' : ℕ) (es' : List Bytes) → read_at (items (read_value 12) (93 ∷ []) n) s i' ≡ got vs' j' → strings (to_items vs') ≡ Some es' → Coming s (Some i') es')
        → Coming s (next_entry s m) rs
    behind m k w ws' l r rs t ih = go (eqb (wide (slice_get s k)) 93) refl
      where
        go : (u : Bool) → eqb (wide (slice_get s k)) 93 ≡ u → Coming s (next_entry s m) rs
        go true u =
            let q : wide (slice_get s k) ≡ 93 = eqb-true (wide (slice_get s k)) 93 u in
            let v : read_at (if_next (93 ∷ []) then one_of (93 ∷ []) >> give [] else one_of (44 ∷ []) >> ws >> items (read_value 12) (93 ∷ []) n) s k ≡ got [] (k + 1) =
            next_yes (peeks s k) _ _ _ (is_one (wide (slice_get s k)) 93 q) ∙ on _ _ _ _ (one_yes (peeks s k) _ (is_one (wide (slice_get s k)) 93 q)) ∙ give_at [] s (k + 1) in
            let y : ◌≡◌ {A = Read (List Json)} (got [] (k + 1)) (got ws' l) = sym v ∙ r in
            let z : [] ≡ ws' = cc in
            let o : rs ≡ [] = no_strings (ap (λ (l : List Json). strings (to_items l)) z ∙ t) in
            rw (o, ← next_none s m w (peeks s k) (not_one (wide (slice_get s k)) 44 (λ c. omega arith))) over
        go false u =
            let q = eqb-false (wide (slice_get s k)) 93 u in
            let v = sym (next_no (peeks s k) (one_of (93 ∷ []) >> give []) (one_of (44 ∷ []) >> ws >> items (read_value 12) (93 ∷ []) n) _ (not_one (wide (slice_get s k)) 93 q)) ∙ r in
            comma (eqb (wide (slice_get s k)) 44) refl v
          where
            comma : (u : Bool) → eqb (wide (slice_get s k)) 44 ≡ u → read_at (one_of (44 ∷ []) >> ws >> items (read_value 12) (93 ∷ []) n) s k ≡ got ws' l → Coming s (next_entry s m) rs
            comma true u v =
                let q : wide (slice_get s k) ≡ 44 = eqb-true (wide (slice_get s k)) 44 u in
                let x = sym (on _ _ _ _ (one_yes (peeks s k) _ (is_one (wide (slice_get s k)) 44 q))) ∙ v in
                let y = bound _ _ s (k + 1) x in
                rw (← next_some s m w (peeks s k) q (ws_at s (k + 1) y.first_read)) (ih y.place ws' l rs y.rest_read t)
            comma false u v =
                let x : read_at (one_of (44 ∷ []) >> ws >> items (read_value 12) (93 ∷ []) n) s k ≡ bad =
                then_bad _ _ _ _ (one_no (peeks s k) _ (not_one (wide (slice_get s k)) 44 (eqb-false (wide (slice_get s k)) 44 u))) in
                let y : ◌≡◌ {A = Read (List Json)} bad (got ws' l) = sym x ∙ v in
                let z : ◌≡◌ {A = ℕ} 0 1 = cc in
                absurd (omega arith)

-- the array at a place
listed_comes : (s : Bytes) (p : ℕ) {vs : List Json} {j : ℕ} {es : List Bytes} {b : Option ℕ} (g : Peeked s p b) → wide b ≡ 91
    → read_at (listed (read_value 12) (93 ∷ [])) s (p + 1) ≡ got vs j → strings (to_items vs) ≡ Some es → Coming s (first_entry s p) es
unfolding listed
listed_comes s p {vs} {j} {es} g h e f =
    let a = bound _ _ s (p + 1) e in
    go a.place (ws_at s (p + 1) a.first_read) a.rest_read (eqb (wide (slice_get s a.place)) 93) refl
  where
    go : (i : ℕ) → read_at ws s (p + 1) ≡ got tt i → read_at (if_next (93 ∷ []) then one_of (93 ∷ []) >> give [] else counted (items (read_value 12) (93 ∷ []))) s i ≡ got vs j
        → (u : Bool) → eqb (wide (slice_get s i)) 93 ≡ u → Coming s (first_entry s p) es
    go i w r true u =
        let q : wide (slice_get s i) ≡ 93 = eqb-true (wide (slice_get s i)) 93 u in
        let v = next_yes (peeks s i) (one_of (93 ∷ []) >> give []) (counted (items (read_value 12) (93 ∷ []))) _ (is_one (wide (slice_get s i)) 93 q) ∙ on _ _ _ _ (one_yes (peeks s i) _ (is_one (wide (slice_get s i)) 93 q)) ∙ give_at [] s (i + 1) in
        let y : ◌≡◌ {A = Read (List Json)} (got [] (i + 1)) (got vs j) = sym v ∙ r in
        let z : [] ≡ vs = cc in
        let o : es ≡ [] = no_strings (ap (λ (l : List Json). strings (to_items l)) z ∙ f) in
        rw (o, ← first_none g h w (peeks s i) q) over
    go i w r false u =
        let q = eqb-false (wide (slice_get s i)) 93 u in
        let v = sym (next_no (peeks s i) (one_of (93 ∷ []) >> give []) (counted (items (read_value 12) (93 ∷ []))) _ (not_one (wide (slice_get s i)) 93 q)) ∙ r in
        rw (← first_some g h w (peeks s i) (not_one (wide (slice_get s i)) 93 q)) (items_come s (suc (length (drop i s))) i (sym (counted_at (items (read_value 12) (93 ∷ [])) s i) ∙ v) f)

record IdsRead (s : Bytes) (p : ℕ) (es : List Bytes) : Type 0 where
  value : Json
  place : ℕ
  read : read_at (read_value 13) s p ≡ got value place
  ids : read_ids value ≡ Some es

ids_read : (s : Bytes) (p : ℕ) {es : List Bytes} → ids_at s p ≡ Some es → IdsRead s p es
unfolding ids_at value_read
ids_read s p {es} e = go (read_at (read_value 13) s p) refl
  where
    go : (r : Read Json) → read_at (read_value 13) s p ≡ r → IdsRead s p es
    go (got v j) f = record { value = v; place = j; read = f; ids = (rw f at e) }
    go bad f = let x = rw f at e in let z : ◌≡◌ {A = ℕ} 0 1 = cc in absurd (omega arith)

array_of : (v : Json) {es : List Bytes} → read_ids v ≡ Some es → as_array v ≡ None → ⊥
unfolding read_ids
array_of v e f = let x = rw f at e in let z : ◌≡◌ {A = ℕ} 0 1 = cc in omega arith

ids_items : (vs : List Json) {es : List Bytes} → read_ids (array (to_items vs)) ≡ Some es → strings (to_items vs) ≡ Some es
unfolding read_ids
ids_items vs e = e

-- the entries of the ids at a place come one after another, none lost, none twice
pub entries_come : (s : Bytes) (p : ℕ) {es : List Bytes} → ids_at s p ≡ Some es → Coming s (first_entry s p) es
entries_come s p {es} e =
    let I = ids_read s p e in
    go I.value I.place I.read I.ids (eqb (wide (slice_get s p)) 91) refl
  where
    go : (v : Json) (j : ℕ) → read_at (read_value 13) s p ≡ got v j → read_ids v ≡ Some es → (u : Bool) → eqb (wide (slice_get s p)) 91 ≡ u → Coming s (first_entry s p) es
    go v j r f false u = absurd (array_of v f (not_array (peeks s p) 13 r (eqb-false (wide (slice_get s p)) 91 u)))
    go v j r f true u =
        let q : wide (slice_get s p) ≡ 91 = eqb-true (wide (slice_get s p)) 91 u in
        let G = given (λ vs. array (to_items vs)) (read_at (listed (read_value 12) (93 ∷ [])) s (p + 1)) (sym (array_at (peeks s p) 12 q) ∙ r) in
        listed_comes s p (peeks s p) q G.read (ids_items G.from (ap read_ids G.is ∙ f))

pub ruleset entry_laws = (first_not, first_none, first_some, next_none, next_some)
