-- The walk over the entries: what each turn of a consumer's loop knows.
use Rattle.std.specs.Prelude.{slice_get, Option, None, Some, unwrap_or}
use mathlib.Core.Path.{◌≡◌, refl, sym, ap, ◌∙◌}
use mathlib.Core.Bool.{Bool, true, false}
use mathlib.Core.List.{List, [], ◌∷◌}
use Prim.Native.Nat.{ℕ, zero, suc, ◌+◌, ◌≤◌, ◌<◌}
use native.Mathlib.Omega.{arith}
use lib.Dec.{leb}
use lib.ListN.{length}
use borrow.Author.Tests.{ltb-false, le-leb, leb-true}
use Rattle.ascii.specs.Ascii.{Bytes, among, filter_by, text, ◌>>=◌}
use Rattle.json_text.specs.Reader.{Read, got, bad, satisfy}
use Rattle.json_text.specs.Lexical.{read_string}
use Rattle.json_text.specs.code.Places.{read_at, fit}
use Rattle.json_text.specs.code.Held.{content}
use Rattle.json_text.specs.declared.decoding.Decoded.{Decoded}
use Rattle.json_text.proofs.Steps.{wide, peeks, here as seen_here, in_text, one_yes, one_no, no_fall, found}
use Rattle.json_text.proofs.TakenApart.{bound}
use Rattle.trusted_list.specs.code.Entries.{to_next, first_entry, next_entry, Coming, over, comes}
use Rattle.trusted_list.proofs.EntryLaws.{entries_come}
use Rattle.entries.specs.Causes.{cause, kept}
use Rattle.entries.specs.code.Reading.{EntryIs, ReadsOf, IdsThere, entries_at, left, string_then, strings_from, entries_from, Stands}
use Rattle.entries.specs.code.Selecting.{listed}
use Rattle.entries.specs.code.Walking.{to_come, held_of, Walk, Advances, at_end, advanced}
use Rattle.entries.specs.declared.Cause.{Cause}
use Rattle.entries.specs.declared.Entry.{Entry}
use Rattle.entries.specs.declared.selected.Selected.{Selected}
use Rattle.entries.specs.declared.walk.Entries.{Entries}
use Rattle.entries.proofs.KeptTests.{is_kept, kept_passes}

-- ---- places

-- where a string stands
pub record Spans (s : Bytes) (i j : ℕ) : Type 0 where
  pub ahead : i < j
  pub inside : i < length s

-- a reader of one byte, which is there
one_ahead : (f : ℕ → Bool) (s : Bytes) (i : ℕ) {u : Unit {0}} {k : ℕ} → f 256 ≡ false → read_at (satisfy f) s i ≡ got u k → (i < k) × (i < length s)
one_ahead f s i {u} {k} n e = go (slice_get s i) refl
  where
    no : read_at (satisfy f) s i ≡ bad → (i < k) × (i < length s)
    no h = let y : ◌≡◌ {A = Read (Unit {0})} bad (got u k) = sym h ∙ e in let z : ◌≡◌ {A = ℕ} 0 1 = cc in absurd (omega arith)

    byte : (b : ℕ) → slice_get s i ≡ Some b → (t : Bool) → f b ≡ t → (i < k) × (i < length s)
    byte b h true t =
        let y : ◌≡◌ {A = Read (Unit {0})} (got tt (i + 1)) (got u k) = sym (one_yes (peeks s i) f (ap (λ (q : Option ℕ). f (wide q)) h ∙ t)) ∙ e in
        let z : i + 1 ≡ k = cc in
        (omega arith, in_text s i (seen_here (peeks s i) h))
    byte b h false t = no (one_no (peeks s i) f (ap (λ (q : Option ℕ). f (wide q)) h ∙ t))

    go : (q : Option ℕ) → slice_get s i ≡ q → (i < k) × (i < length s)
    go None h = no (one_no (peeks s i) f (ap (λ (q : Option ℕ). f (wide q)) h ∙ n))
    go (Some b) h = byte b h (f b) refl

pub string_spans : (s : Bytes) (i : ℕ) {e : Bytes} {j : ℕ} → read_at read_string s i ≡ got e j → Spans s i j
unfolding read_string
string_spans s i {e} {j} r =
    let B = bound _ _ s i r in
    let l : i ≤ B.place = no_fall _ s i B.first_read in
    let m : B.place ≤ j = no_fall _ s B.place B.rest_read in
    let q = one_ahead (among (text "\"")) s i refl B.first_read in
    record { ahead = omega (arith, q.0); inside = q.1 }

pub next_ahead : (s : Bytes) (j : ℕ) {q : Option ℕ} {i : ℕ} → q ≡ next_entry s j → q ≡ Some i → j < i
unfolding next_entry to_next
next_ahead s j {q} {i} e h =
    let f = found (read_at _ s j) e h in
    let a = bound _ _ s j f.1 in
    let b = bound _ _ s a.place a.rest_read in
    let x : j ≤ a.place = no_fall _ s j a.first_read in
    let y : a.place < b.place = (one_ahead (among (text ",")) s a.place refl b.first_read).0 in
    let z : b.place ≤ i = no_fall _ s b.place b.rest_read in
    omega arith

-- what comes at a place, taken apart
record Comes (s : Bytes) (at : ℕ) (es : List Bytes) : Type 0 where
  entry : Bytes
  rest : List Bytes
  end : ℕ
  whole : es ≡ entry ∷ rest
  read : read_at read_string s at ≡ got entry end
  later : Coming s (next_entry s end) rest

comes_at : {s : Bytes} {q : Option ℕ} {es : List Bytes} {at : ℕ} → Coming s q es → q ≡ Some at → Comes s at es
comes_at over h = let z : ◌≡◌ {A = ℕ} 0 1 = cc in absurd (omega arith)
comes_at {s} {at} (comes {i} {j} {e} {es} r c) h =
    let x : i ≡ at = cc in
    record { entry = e; rest = es; end = j; whole = refl; read = ap (read_at read_string s) (sym x) ∙ r; later = c }

nothing_comes : {s : Bytes} {q : Option ℕ} {es : List Bytes} → Coming s q es → q ≡ None → es ≡ []
nothing_comes over h = refl
nothing_comes (comes r c) h = let z : ◌≡◌ {A = ℕ} 0 1 = cc in absurd (omega arith)

-- ---- kept entries

module _ (appid table e : Bytes) (es : List Bytes) where
  pub kept_more : cause appid table e ≡ None → kept appid table (e ∷ es) ≡ e ∷ kept appid table es
  unfolding kept filter_by
  kept_more h = rw h

  pub kept_less : {c : Cause} → cause appid table e ≡ Some c → kept appid table (e ∷ es) ≡ kept appid table es
  unfolding kept filter_by
  kept_less h = rw h

pub kept_none : (appid table : Bytes) → kept appid table [] ≡ []
unfolding kept filter_by
kept_none appid table = refl

-- ---- the strings from a place on

left_less : (body : Bytes) (i : ℕ) {j : ℕ} {e : Bytes} → read_at read_string body i ≡ got e j → left body (next_entry body j) < left body (Some i)
left_less body i {j} r = go (next_entry body j) refl
  where
    go : (next : Option ℕ) → next ≡ next_entry body j → left body next < left body (Some i)
    go None e = unfold left in omega (arith, (string_spans body i r).inside)
    go (Some k) e = unfold left in omega (arith, (string_spans body i r).ahead, (string_spans body i r).inside, next_ahead body j e refl)

left_some : (body : Bytes) (i : ℕ) → 1 ≤ left body (Some i)
unfolding left
left_some body i = omega arith

-- the strings that come are those that stand there
come_stand : {body : Bytes} (q : Option ℕ) {es : List Bytes} (n : ℕ) → Coming body q es → left body q ≤ n → strings_from n body q ≡ Some es
unfolding strings_from string_then
come_stand None zero over l = refl
come_stand None (suc n) over l = refl
come_stand {body} (Some i) zero (comes r c) l = absurd (omega (arith, left_some body i))
come_stand {body} (Some i) (suc n) (comes {j} r c) l = rw (r, come_stand (next_entry body j) n c (omega (arith, left_less body i r)))

first_come : (body : Bytes) (i : ℕ) {es : List Bytes} (behind : ℕ → Option (List Bytes)) → ((j : ℕ) (xs : List Bytes) → behind j ≡ Some xs → Coming body (next_entry body j) xs)
    → string_then (read_at read_string body i) behind ≡ Some es → Coming body (Some i) es
first_come body i {es} behind later h = go (read_at read_string body i) refl h
  where
    rest : (x : Bytes) (j : ℕ) → read_at read_string body i ≡ got x j → (o : Option (List Bytes)) → behind j ≡ o → (o >>= λ xs. Some (x ∷ xs)) ≡ Some es → Coming body (Some i) es
    rest x j e None f h = let z : ◌≡◌ {A = ℕ} 0 1 = cc in absurd (omega arith)
    rest x j e (Some xs) f h = let z : x ∷ xs ≡ es = cc in rw (← z) (comes e (later j xs f))

    go : (r : Read Bytes) → read_at read_string body i ≡ r → string_then r behind ≡ Some es → Coming body (Some i) es
    go bad e = unfold string_then in (λ h. let z : ◌≡◌ {A = ℕ} 0 1 = cc in absurd (omega arith))
    go (got x j) e = unfold string_then in (λ h. rest x j e (behind j) refl h)

-- and the other way
stand_come : (n : ℕ) (body : Bytes) (q : Option ℕ) {es : List Bytes} → strings_from n body q ≡ Some es → Coming body q es
unfolding strings_from
stand_come zero body None {es} h = let z : ◌≡◌ {A = List Bytes} [] es = cc in rw (← z) over
stand_come (suc n) body None {es} h = let z : ◌≡◌ {A = List Bytes} [] es = cc in rw (← z) over
stand_come zero body (Some i) h = let z : ◌≡◌ {A = ℕ} 0 1 = cc in absurd (omega arith)
stand_come (suc n) body (Some i) h = first_come body i (λ j. strings_from n body (next_entry body j)) (λ j xs f. stand_come n body (next_entry body j) {es = xs} f) h

module _ {body : Bytes} {q : Option ℕ} {es : List Bytes} (C : Coming body q es) where
  from_is : entries_from body q ≡ es
  unfolding entries_from
  from_is = rw (come_stand q (left body q) C (omega arith))

  stands : Stands body q
  stands = record { is = come_stand q (left body q) C (omega arith) ∙ ap Some (sym from_is) }

-- ---- the code's steps

stand_first : {body : Bytes} {ids : ℕ} {q : Option ℕ} → IdsThere body ids → q ≡ first_entry body ids → Coming body q (entries_at body ids)
stand_first {body} {ids} T e = rw e (entries_come body ids T.is)

pub walk_stands : {body : Bytes} {ids : ℕ} {q : Option ℕ} → IdsThere body ids → q ≡ first_entry body ids → Stands body q
walk_stands T e = stands (stand_first T e)

pub walk_starts : (l : Selected) (w : Entries) → w.list.now ≡ l → w.next ≡ first_entry l.body.now l.ids → Walk l (listed l) w
walk_starts l w a e = record { list_is = a; coming_is = coming }
  where
    coming : to_come w ≡ listed l
    coming = unfold to_come in (ap (λ (m : Selected). entries_from m.body.now w.next) a ∙ from_is (stand_first l.there e))

-- no string stands behind the last
pub walk_over : (body : Bytes) → Stands body None
walk_over body = stands over

coming_on : (w : Entries) → Coming w.list.now.body.now w.next (to_come w)
coming_on w = unfold to_come in (stand_come (left w.list.now.body.now w.next) w.list.now.body.now w.next w.stands.is)

pub walk_ends : (w : Entries) → w.next ≡ None → Advances w w None
walk_ends w h =
    let e = nothing_comes (coming_on w) h in
    at_end e (record { list_is = refl; coming_is = e })

module _ (w : Entries) {i : ℕ} (h : w.next ≡ Some i) where
  C : Comes w.list.now.body.now i (to_come w)
  C = comes_at (coming_on w) h

  module _ {d : Decoded} {r : Entry} (R : ReadsOf w.list.now.body.now i w.list.now.appid.now w.list.now.table.now d r) where
    E : EntryIs w.list.now.appid.now w.list.now.table.now w.list.now.body.now C.entry C.end d r
    E = R.is C.entry C.end C.read

    behind : Coming w.list.now.body.now r.next C.rest
    behind = go E.next_is C.later
      where
        go : {q k : Option ℕ} {es : List Bytes} → q ≡ k → Coming w.list.now.body.now k es → Coming w.list.now.body.now q es
        go e c = rw e c

    pub walk_stays : Stands w.list.now.body.now r.next
    walk_stays = stands behind

    pub walk_advances : (v : Entries) → v.list.now ≡ w.list.now → v.last ≡ d → v.next ≡ r.next → Advances w v (Some r.cause)
    walk_advances v l m n = advanced C.whole (record { list_is = l; coming_is = coming }) (ap content m ∙ E.content_is) E.cause_is
      where
        coming : to_come v ≡ C.rest
        coming = unfold to_come in (ap (λ (x : Selected). entries_from x.body.now v.next) l ∙ ap (entries_from w.list.now.body.now) n ∙ from_is behind)

-- ---- what a consumer takes from it

-- a turn over an entry: what it was, and that the others are to come
pub record Turn (l : Selected) (w v : Entries) (c : Option Cause) : Type 0 where
  pub entry : Bytes
  pub whole : to_come w ≡ entry ∷ to_come v
  pub content_is : held_of v ≡ fit entry
  pub cause_is : c ≡ cause l.appid.now l.table.now entry
  pub list_is : v.list.now ≡ l

module _ {w v : Entries} {r : Option (Option Cause)} (A : Advances w v r) where
  pub all_gone : r ≡ None → to_come w ≡ []
  all_gone h = go A h
    where
      go : {r : Option (Option Cause)} → Advances w v r → r ≡ None → to_come w ≡ []
      go (at_end e W) h = e
      go (advanced a b c d) h = let z : ◌≡◌ {A = ℕ} 0 1 = cc in absurd (omega arith)

  pub turn : {l : Selected} → w.list.now ≡ l → {c : Option Cause} → r ≡ Some c → Turn l w v c
  turn {l} m {c} h = go A h
    where
      told : {e : Bytes} {es : List Bytes} {b : Option Cause} → to_come w ≡ e ∷ es → Walk w.list.now es v → held_of v ≡ fit e
          → b ≡ cause w.list.now.appid.now w.list.now.table.now e → b ≡ c → Turn l w v c
      told {e} f W g k z = record {
        entry = e;
        whole = f ∙ ap (λ (xs : List Bytes). e ∷ xs) (sym W.coming_is);
        content_is = g;
        cause_is = sym z ∙ k ∙ ap (λ (x : Selected). cause x.appid.now x.table.now e) m;
        list_is = W.list_is ∙ m;
      }

      go : {r : Option (Option Cause)} → Advances w v r → r ≡ Some c → Turn l w v c
      go (at_end e W) h = let z : ◌≡◌ {A = ℕ} 0 1 = cc in absurd (omega arith)
      go (advanced {c = b} f W g k) h = let z : b ≡ c = cc in told f W g k z

-- a list has fewer entries than its body has bytes
come_short : {body : Bytes} (q : Option ℕ) {es : List Bytes} → Coming body q es → (i : ℕ) → q ≡ Some i → length es + i ≤ length body
come_short None over i h = let z : ◌≡◌ {A = ℕ} 0 1 = cc in absurd (omega arith)
come_short {body} (Some m) (comes {j} {es} r c) i h = let z : m ≡ i = cc in go z (next_entry body j) refl (come_short (next_entry body j) c)
  where
    go : m ≡ i → (q : Option ℕ) → q ≡ next_entry body j → ((k : ℕ) → next_entry body j ≡ Some k → length es + k ≤ length body) → suc (length es) + i ≤ length body
    go z None e f = omega (arith, (string_spans body m r).inside, ap length (nothing_comes c (sym e)))
    go z (Some k) e f = omega (arith, f k (sym e), (string_spans body m r).ahead, next_ahead body j e refl)

pub list_short : (l : Selected) → length (listed l) ≤ 65536
list_short l = go (first_entry l.body.now l.ids) refl (stand_first l.there refl)
  where
    go : (q : Option ℕ) → q ≡ first_entry l.body.now l.ids → Coming l.body.now (first_entry l.body.now l.ids) (listed l) → length (listed l) ≤ 65536
    go None e C = omega (arith, ap length (nothing_comes C (sym e)))
    go (Some i) e C = omega (arith, come_short (first_entry l.body.now l.ids) C i (sym e), l.short)

-- what is held of a kept entry is the entry
module _ (appid table e : Bytes) {p : Bytes} (h : p ≡ unwrap_or (fit e) []) where
  pub held_kept : cause appid table e ≡ None → p ≡ e
  held_kept k = h ∙ ap (λ (x : Option Bytes). unwrap_or x []) whole
    where
      small : length e ≤ 512
      small = ltb-false 512 (length e) (kept_passes appid table e (unfold is_kept in (rw k))).short

      whole : fit e ≡ Some e
      whole = unfold fit in (rw (le-leb (length e) 512 small))

  pub fit_short : length p ≤ 512
  fit_short = rw h (go (leb (length e) 512) refl)
    where
      go : (b : Bool) → leb (length e) 512 ≡ b → length (unwrap_or (fit e) []) ≤ 512
      go true z = unfold fit in (rw z (leb-true (length e) 512 z))
      go false z = unfold fit in (rw z (omega arith))

module _ {l : Selected} {w v : Entries} {c : Option Cause} (T : Turn l w v c) where
  pub turn_less : length (to_come v) < length (to_come w)
  turn_less = omega (arith, ap length T.whole)

  -- it is kept, and this is it
  module _ (h : c ≡ None) where
    pub kept_none_fits : cause l.appid.now l.table.now T.entry ≡ None
    kept_none_fits = sym T.cause_is ∙ h

    pub kept_held : {p : Bytes} → p ≡ unwrap_or (held_of v) [] → p ≡ T.entry
    kept_held e = held_kept l.appid.now l.table.now T.entry (e ∙ ap (λ (x : Option Bytes). unwrap_or x []) T.content_is) kept_none_fits

    pub kept_first : kept l.appid.now l.table.now (to_come w) ≡ T.entry ∷ kept l.appid.now l.table.now (to_come v)
    kept_first = ap (kept l.appid.now l.table.now) T.whole ∙ kept_more l.appid.now l.table.now T.entry (to_come v) kept_none_fits

  pub dropped_first : {x : Cause} → c ≡ Some x → kept l.appid.now l.table.now (to_come w) ≡ kept l.appid.now l.table.now (to_come v)
  dropped_first {x} h = ap (kept l.appid.now l.table.now) T.whole ∙ kept_less l.appid.now l.table.now T.entry (to_come v) (sym T.cause_is ∙ h)
