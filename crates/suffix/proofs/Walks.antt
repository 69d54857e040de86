-- The loop over the bytes of lines that find nothing. Assumes nothing.
use Rattle.std.specs.Prelude.{if◌then◌else◌, Option, None, Some}
use mathlib.Core.Path.{◌≡◌, refl, sym, ap, ◌∙◌}
use mathlib.Core.Bool.{Bool, true, false, ◌&&◌, ◌||◌, or-true}
use mathlib.Core.List.{◌∷◌}
use Prim.Native.Nat.{ℕ, suc, ◌+◌, ◌-◌, ◌*◌, ◌≤◌, ◌<◌}
use native.Mathlib.Omega.{arith}
use native.Mathlib.Numerals.{add-one}
use native.Mathlib.Nat.{add-zero}
use lib.ListN.{length, get_or, take, drop}
use lib.Seq.{drop-cons, get_or-take, get_or-drop, length-take-le}
use lib.ListN.{length-drop}
use lib.Dec.{eqb, leb, ltb}
use borrow.Author.Rules.{rules}
use borrow.Author.Tests.{eq-eqb, ne_eqb, eqb-true, eqb-false, lt-ltb, le-ltb, ltb-true, leb-true}
use Rattle.ascii.specs.Ascii.{Bytes, take_while, lower_byte}
use Rattle.ascii.proofs.Scan.{scan_part}
use Rattle.hosts.specs.Host.{labels}
use Rattle.suffix.specs.code.Pass.{read_line, in_line}
use Rattle.suffix.specs.code.Depth.{line_depth}
use Rattle.suffix.specs.code.Idle.{Idle, last_byte, is_alphanumeric, is_like, kind_of, kind_in, KindsOf, step_of, stop_of, HostLine, Stopped, at_host, at_other, start_of, end_of, StoppedBy}
use Rattle.suffix.specs.declared.skips.Stop.{Stop}
use Rattle.suffix.specs.declared.skips.Stop.TheVariants.{Host, Other}
use Rattle.suffix.proofs.Passes.{line_other}
use Rattle.suffix.proofs.KindLaws.{kind_lf, kind_told}
use Rattle.suffix.proofs.PlainHosts.{no_plain, lf_plain, may_follow, shape_from, shape_content, shape_host}
use Rattle.suffix.proofs.IdleLines.{idle_none, idle_on, idle_line, FindsTo, end_byte, unlike, finds_unlike}

-- ---- what a kind tells

data KindIs (last : Option ℕ) (b : ℕ) : ℕ → Type 0 where
  is_alike : is_alphanumeric b ≡ true → KindIs last b 1
  is_plain_lem : is_alphanumeric b ≡ true → is_like last b ≡ false → KindIs last b 0
  is_hyphen : b ≡ 45 → KindIs last b 6
  is_dot : b ≡ 46 → KindIs last b 7
  is_lf : b ≡ 10 → KindIs last b 8
  is_rest : KindIs last b 9

kind_is : (last : Option ℕ) (b : ℕ) → KindIs last b (kind_of last b)
unfolding kind_of
kind_is last b = go (is_alphanumeric b) (is_like last b) (eqb b 45) (eqb b 46) (eqb b 10) refl refl refl refl refl
  where
    go : (p a h d n : Bool) → is_alphanumeric b ≡ p → is_like last b ≡ a → eqb b 45 ≡ h → eqb b 46 ≡ d → eqb b 10 ≡ n
        → KindIs last b (if p then (if a then 1 else 0) else if h then 6 else if d then 7 else if n then 8 else 9)
    go true true h d n e f g i j = is_alike e
    go true false h d n e f g i j = is_plain_lem e f
    go false a true d n e f g i j = is_hyphen (eqb-true b 45 g)
    go false a false true n e f g i j = is_dot (eqb-true b 46 i)
    go false a false false true e f g i j = is_lf (eqb-true b 10 j)
    go false a false false false e f g i j = is_rest

-- the two numbers tell whether b may stand behind a
follow_plain : (a b : ℕ) → is_alphanumeric b ≡ true → may_follow a b ≡ true
unfolding may_follow
follow_plain a b e = rw e

follow_hyphen : (a b : ℕ) → b ≡ 45 → (is_alphanumeric a || eqb a 45) ≡ true → may_follow a b ≡ true
unfolding may_follow
follow_hyphen a b e f = go (is_alphanumeric b)
  where
    go : (u : Bool) → (if u then true else if eqb b 45 then (is_alphanumeric a || eqb a 45) else if eqb b 46 then is_alphanumeric a else false) ≡ true
    go true = refl
    go false = rw (eq-eqb b 45 e, f)

follow_dot : (a b : ℕ) → b ≡ 46 → is_alphanumeric a ≡ true → may_follow a b ≡ true
unfolding may_follow
follow_dot a b e f = go (is_alphanumeric b)
  where
    n : b ≡ 45 → ⊥
    n z = omega arith

    go : (u : Bool) → (if u then true else if eqb b 45 then (is_alphanumeric a || eqb a 45) else if eqb b 46 then is_alphanumeric a else false) ≡ true
    go true = refl
    go false = rw (ne_eqb b 45 n, eq-eqb b 46 e, f)

follow : (last : Option ℕ) (a b p k : ℕ) → KindIs last a p → KindIs last b k → p + 3 * k ≤ 24 → (b ≡ 10 → ⊥) → may_follow a b ≡ true
follow last a b p k A (is_alike e) h n = follow_plain a b e
follow last a b p k A (is_plain_lem e f) h n = follow_plain a b e
follow last a b p k (is_alike e) (is_hyphen f) h n = follow_hyphen a b f (rw e)
follow last a b p k (is_plain_lem e g) (is_hyphen f) h n = follow_hyphen a b f (rw e)
follow last a b p k (is_hyphen e) (is_hyphen f) h n = follow_hyphen a b f (rw (eq-eqb a 45 e, or-true))
follow last a b p k (is_dot e) (is_hyphen f) h n = absurd (omega arith)
follow last a b p k (is_lf e) (is_hyphen f) h n = absurd (omega arith)
follow last a b p k is_rest (is_hyphen f) h n = absurd (omega arith)
follow last a b p k (is_alike e) (is_dot f) h n = follow_dot a b f e
follow last a b p k (is_plain_lem e g) (is_dot f) h n = follow_dot a b f e
follow last a b p k (is_hyphen e) (is_dot f) h n = absurd (omega arith)
follow last a b p k (is_dot e) (is_dot f) h n = absurd (omega arith)
follow last a b p k (is_lf e) (is_dot f) h n = absurd (omega arith)
follow last a b p k is_rest (is_dot f) h n = absurd (omega arith)
follow last a b p k A (is_lf e) h n = absurd (n e)
follow last a b p k A is_rest h n = absurd (omega arith)

-- ---- the loop

-- the byte before the place i of a line, LF at its start
unfoldable pub prev_of : Bytes → ℕ → ℕ → ℕ
prev_of table start i = if ltb start i then get_or table (i - 1) 0 else 10

-- the line at start is read up to i, the lines before it find nothing; room for more bytes
pub record Walk (host table : Bytes) (from start i p room : ℕ) : Type 0 where
  pub onward : start ≤ i
  pub inside : i ≤ length table
  pub short : i + room ≤ start + 63
  pub idle : Idle host table from start
  pub kind : p ≡ kind_of (last_byte host) (prev_of table start i)
  pub shape : shape_from (prev_of table start i) (drop i table) ≡ shape_from 10 (drop start table)
  pub scan : i + length (take_while in_line (drop i table)) ≡ start + length (take_while in_line (drop start table))

prev_start : (table : Bytes) (i : ℕ) → prev_of table i i ≡ 10
unfolding prev_of
prev_start table i = rw (le-ltb i i (omega arith))

prev_more : (table : Bytes) (start i : ℕ) → start ≤ i → prev_of table start (i + 1) ≡ get_or table i 0
unfolding prev_of
prev_more table start i h = let z : i + 1 - 1 ≡ i = omega arith in rw (lt-ltb start (i + 1) (omega arith), z)

walk_at : (host table : Bytes) (from i room : ℕ) → i ≤ length table → room ≤ 63 → Idle host table from i → Walk host table from i i 8 room
walk_at host table from i room h r I = record {
  onward = omega arith;
  inside = h;
  short = omega arith;
  idle = I;
  kind = kind_lf (last_byte host) (prev_of table i i) (prev_start table i);
  shape = rw (prev_start table i);
  scan = refl;
}

walk_starts : (host table : Bytes) {from : ℕ} → from ≤ length table → Walk host table from from from 8 0
walk_starts host table {from} h = walk_at host table from from 0 h (omega arith) (idle_none host table from (omega arith))

-- a line that is a host up to the LF at i
module _ {host table : Bytes} {from start i p room : ℕ} (W : Walk host table from start i p room) (l : i < length table) (e : get_or table i 0 ≡ 10) (f : is_alphanumeric (prev_of table start i) ≡ true) where
  rest : drop i table ≡ 10 ∷ drop (suc i) table
  rest = drop-cons table i 0 l ∙ rw e

  shaped : shape_from 10 (drop start table) ≡ true
  unfolding shape_from
  shaped = sym W.shape ∙ rw rest f

  ends : i ≡ start + length (take_while in_line (drop start table))
  unfolding take_while in_line
  ends = sym (rw rest (add-zero i)) ∙ W.scan

  part : take (i - start) (drop start table) ≡ take_while in_line (drop start table)
  part = scan_part in_line table start i ends

  line_is : HostLine table start i
  line_is = record {
    onward = W.onward;
    inside = l;
    ends = ends;
    whole = shape_content (drop start table) 10 shaped ∙ sym part;
    host = rw part (shape_host (drop start table) shaped (omega (arith, ends, W.short)));
  }

-- the last byte of a line that ends at i
last_before : (table : Bytes) (start i : ℕ) → i ≤ length table → is_alphanumeric (prev_of table start i) ≡ true → end_byte (take (i - start) (drop start table)) ≡ prev_of table start i
unfolding prev_of end_byte
last_before table start i h f = go (ltb start i) refl f
  where
    go : (u : Bool) → ltb start i ≡ u → is_alphanumeric (if u then get_or table (i - 1) 0 else 10) ≡ true
        → get_or (take (i - start) (drop start table)) (length (take (i - start) (drop start table)) - 1) 0 ≡ (if u then get_or table (i - 1) 0 else 10)
    go true e f =
        let l : start < i = ltb-true start i e in
        let n : length (take (i - start) (drop start table)) ≡ i - start = length-take-le (i - start) (drop start table) (omega (arith, length-drop start table)) in
        let m : start + (i - start - 1) ≡ i - 1 = omega arith in
        rw n (get_or-take (i - start) (drop start table) (i - start - 1) 0 (omega arith) ∙ get_or-drop start table (i - start - 1) 0 ∙ ap (λ (n : ℕ). get_or table n 0) m)
    go false e f = no_plain 10 10 f refl lf_plain

-- ---- one byte on

record Told (k p start next s n : ℕ) : Type 0 where
  pub sum : p + 3 * k ≤ 24
  pub starts : s ≡ (if eqb k 8 then next else start)
  pub same : n ≡ k

abbrev start_in : Option (ℕ × ℕ) → ℕ
start_in None = 0
start_in (Some r) = r.0

abbrev same_in : Option (ℕ × ℕ) → ℕ
same_in None = 0
same_in (Some r) = r.1

step_told : (k p start next s n : ℕ) → step_of k p start next ≡ Some (s, n) → Told k p start next s n
unfolding step_of
step_told k p start next s n e = go (leb (p + 3 * k) 24) refl e
  where
    go : (u : Bool) → leb (p + 3 * k) 24 ≡ u → if◌then◌else◌ {A = Option (ℕ × ℕ)} u (Some ((if eqb k 8 then next else start), k)) None ≡ Some (s, n) → Told k p start next s n
    go true h e = record { sum = leb-true (p + 3 * k) 24 h; starts = sym (ap start_in e); same = sym (ap same_in e) }
    go false h e = let z : ◌≡◌ {A = ℕ} 0 1 = cc in absurd (omega arith)

lf_of : (last : Option ℕ) (b k : ℕ) → KindIs last b k → k ≡ 8 → b ≡ 10
lf_of last b k (is_alike e) z = absurd (omega arith)
lf_of last b k (is_plain_lem e f) z = absurd (omega arith)
lf_of last b k (is_hyphen e) z = absurd (omega arith)
lf_of last b k (is_dot e) z = absurd (omega arith)
lf_of last b k (is_lf e) z = e
lf_of last b k is_rest z = absurd (omega arith)

plain_of : (last : Option ℕ) (b k : ℕ) → KindIs last b k → k ≤ 1 → is_alphanumeric b ≡ true
plain_of last b k (is_alike e) z = e
plain_of last b k (is_plain_lem e f) z = e
plain_of last b k (is_hyphen e) z = absurd (omega arith)
plain_of last b k (is_dot e) z = absurd (omega arith)
plain_of last b k (is_lf e) z = absurd (omega arith)
plain_of last b k is_rest z = absurd (omega arith)

unlike_of : (last : Option ℕ) (b k : ℕ) → KindIs last b k → k ≡ 0 → is_like last b ≡ false
unlike_of last b k (is_alike e) z = absurd (omega arith)
unlike_of last b k (is_plain_lem e f) z = f
unlike_of last b k (is_hyphen e) z = absurd (omega arith)
unlike_of last b k (is_dot e) z = absurd (omega arith)
unlike_of last b k (is_lf e) z = absurd (omega arith)
unlike_of last b k is_rest z = absurd (omega arith)

none_deep : {host w : Bytes} → FindsTo host w 0 → 0 ≡ line_depth (labels host) (read_line w)
none_deep F = omega (arith, F.depth)

module _ {host table : Bytes} {from start i p room : ℕ} (W : Walk host table from start i p (suc room)) (l : i < length table) where
  prev_is : KindIs (last_byte host) (prev_of table start i) p
  prev_is = rw W.kind (kind_is (last_byte host) (prev_of table start i))

  -- the LF of a line that finds nothing
  line_passed : get_or table i 0 ≡ 10 → p ≡ 0 → Idle host table from (i + 1)
  line_passed e z =
      let f = plain_of (last_byte host) (prev_of table start i) p prev_is (omega arith) in
      let L = line_is W l e f in
      let b = last_before table start i W.inside f in
      let F = finds_unlike host (take (i - start) (drop start table)) L.host (ap is_alphanumeric b ∙ f)
      (λ y. unlike host (prev_of table start i) f (unlike_of (last_byte host) (prev_of table start i) p prev_is z) (ap lower_byte (sym b) ∙ y)) in
      idle_on host table W.idle (idle_line host table start i (omega (arith, W.onward, W.inside)) L.ends (rw L.whole F.best) (rw L.whole (none_deep F)))

  byte_passed : (get_or table i 0 ≡ 10 → ⊥) → p + 3 * kind_of (last_byte host) (get_or table i 0) ≤ 24 → Walk host table from start (i + 1) (kind_of (last_byte host) (get_or table i 0)) room
  byte_passed n h =
      let m = follow (last_byte host) (prev_of table start i) (get_or table i 0) p (kind_of (last_byte host) (get_or table i 0)) prev_is (kind_is (last_byte host) (get_or table i 0)) h n in
      let z = prev_more table start i W.onward in
      record {
        onward = omega (arith, W.onward);
        inside = omega arith;
        short = omega (arith, W.short);
        idle = W.idle;
        kind = rw z;
        shape = rw z (more m) ∙ W.shape;
        scan = scanned ∙ W.scan;
      }
    where
      more : may_follow (prev_of table start i) (get_or table i 0) ≡ true → shape_from (get_or table i 0) (drop (i + 1) table) ≡ shape_from (prev_of table start i) (drop i table)
      more m = unfold shape_from in (rw (drop-cons table i 0 l, add-one, ne_eqb (get_or table i 0) 10 n, m))

      scanned : i + 1 + length (take_while in_line (drop (i + 1) table)) ≡ i + length (take_while in_line (drop i table))
      scanned = unfold take_while in (rw (drop-cons table i 0 l, add-one, ← line_other (get_or table i 0) n) (omega arith))

  walk_told : {s n : ℕ} → Told (kind_of (last_byte host) (get_or table i 0)) p start (i + 1) s n → Walk host table from s (i + 1) n room
  walk_told {s} {n} T = go (eqb (kind_of (last_byte host) (get_or table i 0)) 8) refl T.starts
    where
      go : (u : Bool) → eqb (kind_of (last_byte host) (get_or table i 0)) 8 ≡ u → s ≡ (if u then i + 1 else start) → Walk host table from s (i + 1) n room
      go true e f =
          let k = eqb-true (kind_of (last_byte host) (get_or table i 0)) 8 e in
          let b = lf_of (last_byte host) (get_or table i 0) (kind_of (last_byte host) (get_or table i 0)) (kind_is (last_byte host) (get_or table i 0)) k in
          let z : p ≡ 0 = omega (arith, T.sum, k) in
          rw (f, T.same ∙ k) (walk_at host table from (i + 1) room (omega arith) (omega (arith, W.short, W.onward)) (line_passed b z))
      go false e f =
          let n = eqb-false (kind_of (last_byte host) (get_or table i 0)) 8 e in
          rw (f, T.same) (byte_passed (λ b. n (sym (kind_lf (last_byte host) (get_or table i 0) b))) T.sum)

module _ {host table : Bytes} {from start i p room : ℕ} (l : i < length table) where
  walk_on : Walk host table from start i p (suc room) → {q : Option (ℕ × ℕ)} {s n : ℕ} (j : ℕ) → j ≡ i + 1 → q ≡ Some (s, n) → q ≡ step_of (kind_of (last_byte host) (get_or table i 0)) p start (i + 1)
      → Walk host table from s j n room
  walk_on W {s = s} {n = n} j z e f = rw z (walk_told W l (step_told (kind_of (last_byte host) (get_or table i 0)) p start (i + 1) s n (sym f ∙ e)))

  walk_stop : Walk host table from start i p room → {r : Stop} → r ≡ stop_of (kind_of (last_byte host) (get_or table i 0)) p start i → Stopped host table from r
  walk_stop W {r} f = rw f (go (eqb (kind_of (last_byte host) (get_or table i 0)) 8) (eqb p 1) refl refl)
    where
      go : (u v : Bool) → eqb (kind_of (last_byte host) (get_or table i 0)) 8 ≡ u → eqb p 1 ≡ v → Stopped host table from (stop_of (kind_of (last_byte host) (get_or table i 0)) p start i)
      go u v e g = unfold stop_of in (rw (e, g) (both u v e g))
        where
          both : (u v : Bool) → eqb (kind_of (last_byte host) (get_or table i 0)) 8 ≡ u → eqb p 1 ≡ v → Stopped host table from (if u && v then Host start i else Other start)
          both true true e g =
              let k = eqb-true (kind_of (last_byte host) (get_or table i 0)) 8 e in
              let b = lf_of (last_byte host) (get_or table i 0) (kind_of (last_byte host) (get_or table i 0)) (kind_is (last_byte host) (get_or table i 0)) k in
              let q = plain_of (last_byte host) (prev_of table start i) p (rw W.kind (kind_is (last_byte host) (prev_of table start i))) (omega (arith, eqb-true p 1 g)) in
              at_host W.idle (line_is W l b q)
          both true false e g = at_other W.idle (omega (arith, W.onward, W.inside))
          both false v e g = at_other W.idle (omega (arith, W.onward, W.inside))

-- ---- by a table of kinds that is lent

pub record WalkBy (kinds host table : Bytes) (from start i p room : ℕ) : Type 0 where
  pub begun : from ≤ start
  pub onward : start ≤ i
  pub is : KindsOf host kinds → Walk host table from start i p room

module _ {kinds host table : Bytes} {from start i p room : ℕ} (l : i < length table) where
  by_on : WalkBy kinds host table from start i p (suc room) → {q : Option (ℕ × ℕ)} {s n : ℕ} (j : ℕ) → j ≡ i + 1 → q ≡ Some (s, n) → q ≡ step_of (kind_in kinds (get_or table i 0)) p start (i + 1)
      → WalkBy kinds host table from s j n room
  by_on W {s = s} {n = n} j z e f = go (eqb (kind_in kinds (get_or table i 0)) 8) (step_told (kind_in kinds (get_or table i 0)) p start (i + 1) s n (sym f ∙ e)).starts
    where
      on : KindsOf host kinds → Walk host table from s j n room
      on K = walk_on l (W.is K) j z e (rw (kind_told K (get_or table i 0)) at f)

      go : (u : Bool) → s ≡ (if u then i + 1 else start) → WalkBy kinds host table from s j n room
      go true t = record { begun = omega (arith, W.begun, W.onward, t); onward = omega (arith, t, z); is = on }
      go false t = record { begun = omega (arith, W.begun, t); onward = omega (arith, W.onward, t, z); is = on }

  by_stop : WalkBy kinds host table from start i p room → {r : Stop} → r ≡ stop_of (kind_in kinds (get_or table i 0)) p start i → StoppedBy kinds host table from r
  by_stop W {r} f = go (eqb (kind_in kinds (get_or table i 0)) 8 && eqb p 1) (unfold stop_of in f)
    where
      stop : KindsOf host kinds → Stopped host table from r
      stop K = walk_stop l (W.is K) (rw (kind_told K (get_or table i 0)) at f)

      go : (u : Bool) → r ≡ (if u then Host start i else Other start) → StoppedBy kinds host table from r
      go true e = unfold start_of end_of in record { begun = rw e W.begun; onward = rw e W.onward; inside = rw e (omega arith); is = stop }
      go false e = unfold start_of end_of in record { begun = rw e W.begun; onward = rw e (omega arith); inside = rw e (omega (arith, W.onward)); is = stop }

-- ---- the turns of the loop, four bytes each

walk_room : {host table : Bytes} {from start i p : ℕ} → Walk host table from start i p 0 → i - start < 60 → Walk host table from start i p 4
walk_room W h = record { onward = W.onward; inside = W.inside; short = omega (arith, W.onward, h); idle = W.idle; kind = W.kind; shape = W.shape; scan = W.scan }

by_room : {kinds host table : Bytes} {from start i p : ℕ} → WalkBy kinds host table from start i p 0 → i - start < 60 → WalkBy kinds host table from start i p 4
by_room W h = record { begun = W.begun; onward = W.onward; is = λ K. walk_room (W.is K) h }

pub record Turn (kinds host table : Bytes) (from start i p : ℕ) : Type 0 where
  pub onward : start ≤ i
  pub inside : i ≤ length table
  pub walk : WalkBy kinds host table from start i p 0

turn_of : {kinds host table : Bytes} {from start i p : ℕ} → i ≤ length table → WalkBy kinds host table from start i p 0 → Turn kinds host table from start i p
turn_of h W = record { onward = W.onward; inside = h; walk = W }

pub turn_starts : (kinds host table : Bytes) {from : ℕ} → from ≤ length table → Turn kinds host table from from from 8
turn_starts kinds host table h = turn_of h (record { begun = omega arith; onward = omega arith; is = λ K. walk_starts host table h })

pub turn_ends : {kinds host table : Bytes} {from start i p : ℕ} → Turn kinds host table from start i p → StoppedBy kinds host table from (Other start)
unfolding start_of end_of
turn_ends T = record {
  begun = T.walk.begun;
  onward = omega arith;
  inside = omega (arith, T.onward, T.inside);
  is = λ K. at_other (T.walk.is K).idle (omega (arith, T.onward, T.inside));
}

module _ {kinds host table : Bytes} {from start i p : ℕ} (T : Turn kinds host table from start i p) (h : 4 ≤ length table - i) where
  W : WalkBy kinds host table from start i p 0
  W = T.walk

  pub stop_one : {r : Stop} → r ≡ stop_of (kind_in kinds (get_or table i 0)) p start i → StoppedBy kinds host table from r
  stop_one = by_stop (omega arith) W

  -- the bytes of this turn leave the line short enough for one label
  module _ (g : i - start < 60) where
    module _ {q : Option (ℕ × ℕ)} {b k : ℕ} (e : q ≡ Some (b, k)) (f : q ≡ step_of (kind_in kinds (get_or table i 0)) p start (i + 1)) where
      one : WalkBy kinds host table from b (i + 1) k 3
      one = by_on (omega arith) (by_room W g) (i + 1) refl e f

      pub stop_two : {r : Stop} → r ≡ stop_of (kind_in kinds (get_or table (i + 1) 0)) k b (i + 1) → StoppedBy kinds host table from r
      stop_two = by_stop (omega arith) one

      module _ {q₂ : Option (ℕ × ℕ)} {c l : ℕ} (e₂ : q₂ ≡ Some (c, l)) (f₂ : q₂ ≡ step_of (kind_in kinds (get_or table (i + 1) 0)) k b (i + 1 + 1)) where
        two : WalkBy kinds host table from c (i + 2) l 2
        two = by_on (omega arith) one (i + 2) (omega arith) e₂ f₂

        pub stop_three : {r : Stop} → r ≡ stop_of (kind_in kinds (get_or table (i + 2) 0)) l c (i + 2) → StoppedBy kinds host table from r
        stop_three = by_stop (omega arith) two

        module _ {q₃ : Option (ℕ × ℕ)} {d m : ℕ} (e₃ : q₃ ≡ Some (d, m)) (f₃ : q₃ ≡ step_of (kind_in kinds (get_or table (i + 2) 0)) l c (i + 2 + 1)) where
          three : WalkBy kinds host table from d (i + 3) m 1
          three = by_on (omega arith) two (i + 3) (omega arith) e₃ f₃

          pub stop_four : {r : Stop} → r ≡ stop_of (kind_in kinds (get_or table (i + 3) 0)) m d (i + 3) → StoppedBy kinds host table from r
          stop_four = by_stop (omega arith) three

          four : {q₄ : Option (ℕ × ℕ)} {s n : ℕ} → q₄ ≡ Some (s, n) → q₄ ≡ step_of (kind_in kinds (get_or table (i + 3) 0)) m d (i + 3 + 1) → Turn kinds host table from s (i + 4) n
          four e₄ f₄ = turn_of (omega arith) (by_on (omega arith) three (i + 4) (omega arith) e₄ f₄)

-- the same with its premises from the last to the first, as `search` finds them
pub turn_more : {kinds host table : Bytes} {from start i p : ℕ} {q q₂ q₃ q₄ : Option (ℕ × ℕ)} {b k c l d m s n : ℕ}
    → q₄ ≡ Some (s, n) → q₄ ≡ step_of (kind_in kinds (get_or table (i + 3) 0)) m d (i + 3 + 1)
    → q₃ ≡ Some (d, m) → q₃ ≡ step_of (kind_in kinds (get_or table (i + 2) 0)) l c (i + 2 + 1)
    → q₂ ≡ Some (c, l) → q₂ ≡ step_of (kind_in kinds (get_or table (i + 1) 0)) k b (i + 1 + 1)
    → q ≡ Some (b, k) → q ≡ step_of (kind_in kinds (get_or table i 0)) p start (i + 1)
    → Turn kinds host table from start i p → 4 ≤ length table - i → i - start < 60 → Turn kinds host table from s (i + 4) n
turn_more e₄ f₄ e₃ f₃ e₂ f₂ e f T h g = four T h g e f e₂ f₂ e₃ f₃ e₄ f₄

pub ruleset walk_laws = (turn_starts, turn_ends, stop_one, stop_two, stop_three, stop_four, turn_more, rules)
