-- Comments, and the pass over lines that find nothing. Assumes nothing.
use mathlib.Core.Path.{◌≡◌, refl, sym, ◌∙◌}
use mathlib.Core.Bool.{Bool, true, false, ◌&&◌, ◌||◌, not}
use mathlib.Core.List.{[], ◌∷◌}
use Prim.Native.Nat.{ℕ, suc, ◌+◌, ◌-◌, ◌≤◌, ◌<◌, ◌*◌, ◌^◌}
use native.Mathlib.Omega.{arith}
use mir.Val.{Fits}
use mir.Syntax.{w64}
use lib.ListN.{length, get_or, take, drop, drop_of_length-le}
use lib.Seq.{drop-cons}
use native.Mathlib.Numerals.{add-one}
use lib.Dec.{ltb}
use borrow.Author.Rules.{rules}
use borrow.Author.Tests.{ltb-true, ltb-false, ne_eqb}
use Rattle.std.specs.Prelude.{Option, None, Some}
use Rattle.std.proofs.lemmas.List.{get_or_read}
use Rattle.ascii.specs.Ascii.{Bytes, take_while, last_of, begins_with}
use Rattle.ascii.proofs.Scan.{scan_to}
use Rattle.hosts.specs.Host.{labels}
use Rattle.hosts.specs.code.Place.{Stands, ends_at_label}
use Rattle.suffix.specs.code.Pass.{in_line}
use Rattle.suffix.specs.code.Idle.{Idle, Skipped, begins_skipped, SkippedLine, no_line, one_line, KindsOf, HostLine, Stopped, at_host, at_other, start_of, end_of, StoppedBy, Shallow, Shallows, ShallowBy}
use Rattle.suffix.specs.declared.skips.Stop.{Stop}
use Rattle.suffix.specs.declared.skips.Stop.TheVariants.{Host, Other}
use Rattle.suffix.proofs.Climbs.{past_is}
use Rattle.suffix.proofs.IdleLines.{idle_none, idle_on, idle_empty, idle_comment, brings_to, shallow_line, shallow_of, shallow_on}

-- ---- comments and empty lines

pub skipped_none : (s : Bytes) (at : ℕ) → at ≤ length s → Skipped s at at
skipped_none s at h = record { onward = omega arith; inside = omega arith; is = λ host. idle_none host s at (omega arith) }

skipped_on : {s : Bytes} {from at to : ℕ} → Skipped s from at → Skipped s at to → Skipped s from to
skipped_on {s} P Q = record { onward = omega (arith, P.onward, Q.onward); inside = Q.inside; is = λ host. idle_on host s (P.is host) (Q.is host) }

skipped_all : {s : Bytes} {from to : ℕ} → ((host : Bytes) → Idle host s from to) → Skipped s from to
skipped_all f = record { onward = (f []).onward; inside = (f []).inside; is = f }

-- what is got at a place stands there
got : (s : Bytes) {i b : ℕ} → true ≡ ltb i (length s) → b ≡ get_or s i b → (i < length s) × (get_or s i 0 ≡ b)
got s {i} {b} h e = let l = ltb-true i (length s) (sym h) in (l, sym (get_or_read s i b l e 0))

-- which lines are passed
module _ (s : Bytes) (at : ℕ) where
  begins_end : length s ≤ at → begins_skipped (drop at s) ≡ false
  unfolding begins_skipped begins_with
  begins_end h = rw (drop_of_length-le s h)

  module _ (h : at < length s) where
    begins_lf : get_or s at 0 ≡ 10 → begins_skipped (drop at s) ≡ true
    unfolding begins_skipped begins_with
    begins_lf e = rw (drop-cons s at 0 h, e)

    begins_other : (get_or s at 0 ≡ 10 → ⊥) → (get_or s at 0 ≡ 47 → ⊥) → begins_skipped (drop at s) ≡ false
    unfolding begins_skipped begins_with
    begins_other m n = rw (drop-cons s at 0 h, ne_eqb 10 (get_or s at 0) (λ z. m (sym z)), ne_eqb 47 (get_or s at 0) (λ z. n (sym z)))

    module _ (e : get_or s at 0 ≡ 47) where
      -- behind the first slash
      begins_slash : begins_skipped (drop at s) ≡ begins_with (47 ∷ []) (drop (at + 1) s)
      unfolding begins_skipped begins_with
      begins_slash = rw (drop-cons s at 0 h, e, add-one)

      begins_short : length s ≤ at + 1 → begins_skipped (drop at s) ≡ false
      unfolding begins_with
      begins_short k = begins_slash ∙ rw (drop_of_length-le s k)

      begins_two : at + 1 < length s → get_or s (at + 1) 0 ≡ 47 → begins_skipped (drop at s) ≡ true
      unfolding begins_with
      begins_two k f = begins_slash ∙ rw (drop-cons s (at + 1) 0 k, f)

      begins_one : at + 1 < length s → (get_or s (at + 1) 0 ≡ 47 → ⊥) → begins_skipped (drop at s) ≡ false
      unfolding begins_with
      begins_one k n = begins_slash ∙ rw (drop-cons s (at + 1) 0 k, ne_eqb 47 (get_or s (at + 1) 0) (λ z. n (sym z)))

pub line_skipped : (s : Bytes) {at b : ℕ} → true ≡ ltb at (length s) → b ≡ get_or s at b → b ≡ 10 → SkippedLine s at (Some (at + 1))
line_skipped s {at} h e f =
    let g = got s h e in
    let z = g.1 ∙ f in
    one_line (begins_lf s at g.0 z) g.0 (omega arith) (skipped_all (λ host. idle_empty host s at g.0 z))

module _ (s : Bytes) {at b : ℕ} (h : true ≡ ltb at (length s)) (e : b ≡ get_or s at b) where
  pub no_slash : (b ≡ 10 → ⊥) → (b ≡ 47 → ⊥) → SkippedLine s at None
  no_slash m n = let g = got s h e in no_line (begins_other s at g.0 (λ z. m (sym g.1 ∙ z)) (λ z. n (sym g.1 ∙ z)))

  pub slash_ends : {q : Option ℕ} → b ≡ 47 → false ≡ ltb (at + 1) (length s) → q ≡ None → SkippedLine s at q
  slash_ends f k w = let g = got s h e in rw w (no_line (begins_short s at g.0 (g.1 ∙ f) (ltb-false (at + 1) (length s) (sym k))))

  pub one_slash : {c : ℕ} → b ≡ 47 → true ≡ ltb (at + 1) (length s) → c ≡ get_or s (at + 1) c → (c ≡ 47 → ⊥) → SkippedLine s at None
  one_slash f k i n = let g = got s h e in let j = got s k i in no_line (begins_one s at g.0 (g.1 ∙ f) j.0 (λ z. n (sym j.1 ∙ z)))

pub line_ends : (s : Bytes) {at : ℕ} {q : Option ℕ} → false ≡ ltb at (length s) → q ≡ None → SkippedLine s at q
line_ends s {at} k w = rw w (no_line (begins_end s at (ltb-false at (length s) (sym k))))

module _ (s : Bytes) (at : ℕ) {to : ℕ} (h : true ≡ ltb (at + 1) (length s)) (t : to ≡ at + 2 + length (take_while in_line (drop (at + 2) s))) where
  pub comment_fits : length s * 1 < 2 ^ 63 → Fits w64 (to + 1)
  comment_fits m = let l = ltb-true (at + 1) (length s) (sym h) in record { fits = omega (arith, scan_to in_line s (at + 2) to t (omega arith)) }

  pub comment_skipped : {b c : ℕ} → true ≡ ltb at (length s) → b ≡ get_or s at b → b ≡ 47 → c ≡ get_or s (at + 1) c → c ≡ 47 → SkippedLine s at (Some (to + 1))
  comment_skipped k e f i j =
      let b = got s k e in
      let c = got s h i in
      let x = b.1 ∙ f in
      let y = c.1 ∙ j in
      one_line (begins_two s at b.0 x c.0 y) b.0 (omega (arith, t)) (skipped_all (λ host. idle_comment host s at b.0 c.0 x y t))

passed_over : {s : Bytes} {at next : ℕ} → SkippedLine s at (Some next) → Skipped s at next
passed_over (one_line g h l S) = S

pub skipped_more : {s : Bytes} {from at next : ℕ} {q : Option ℕ} → Skipped s from at → SkippedLine s at q → q ≡ Some next → Skipped s from next
skipped_more S L e = skipped_on S (passed_over (rw e at L))

-- ---- lines that find nothing

neither : (a b : Bool) → not (a || b) ≡ true → (a ≡ false) × (b ≡ false)
neither false false e = (refl, refl)
neither false true e = let z : ◌≡◌ {A = ℕ} 0 1 = cc in absurd (omega arith)
neither true b e = let z : ◌≡◌ {A = ℕ} 0 1 = cc in absurd (omega arith)

record ToHost (host table : Bytes) (from start to : ℕ) : Type 0 where
  pub idle : Idle host table from start
  pub line : HostLine table start to

record ToOther (host table : Bytes) (from start : ℕ) : Type 0 where
  pub idle : Idle host table from start
  pub inside : start ≤ length table

module _ {host table : Bytes} {at : ℕ} where
  to_host : {q : Stop} {start to : ℕ} → Stopped host table at q → q ≡ Host start to → ToHost host table at start to
  to_host {start = start} {to = to} (at_host {start = x} {to = y} I L) e =
      let u : x ≡ start = cc in
      let v : y ≡ to = cc in
      rw (← u, ← v) (record { idle = I; line = L })
  to_host (at_other I h) e = let z : ◌≡◌ {A = ℕ} 0 1 = cc in absurd (omega arith)

  to_other : {q : Stop} {start : ℕ} → Stopped host table at q → q ≡ Other start → ToOther host table at start
  to_other (at_host I L) e = let z : ◌≡◌ {A = ℕ} 0 1 = cc in absurd (omega arith)
  to_other {start = start} (at_other {start = x} I h) e = let u : x ≡ start = cc in rw (← u) (record { idle = I; inside = h })

module _ {host table : Bytes} {at : ℕ} {q : Stop} (S : Stopped host table at q) {m d from : ℕ} (I : Shallow host table m d from at) where
  -- the lines up to a host, and with it
  up_to_host : {start to : ℕ} → q ≡ Host start to → Shallow host table m d from start
  up_to_host e = shallow_on I (shallow_of m d (to_host S e).idle)

  with_host : {start to last : ℕ} {r : Bool} → q ≡ Host start to → Stands (last_of (suc d) (labels host)) host last
      → r ≡ not ((ends_at_label (take (to - start) (drop start table)) host && ltb m (length (labels (take (to - start) (drop start table)))))
      || (ltb (length (take (length host - last) (drop last host))) (length (take (to - start) (drop start table))) && ends_at_label (take (length host - last) (drop last host)) (take (to - start) (drop start table))))
      → r ≡ true → Shallow host table m d from (to + 1)
  with_host {start} {to} {last} e T f g =
      let L = (to_host S e).line in
      let w = take (to - start) (drop start table) in
      let t = take (length host - last) (drop last host) in
      let n = neither (ends_at_label w host && ltb m (length (labels w))) (ltb (length t) (length w) && ends_at_label t w) (sym f ∙ g) in
      let F = brings_to host t w m d L.host (past_is host d T) n.0 n.1 in
      shallow_on (up_to_host e) (shallow_line host table m d start to (omega (arith, L.onward, L.inside)) L.ends (rw L.whole F))

  -- the lines up to another line
  up_to_other : {start : ℕ} → q ≡ Other start → Shallow host table m d from start
  up_to_other e = shallow_on I (shallow_of m d (to_other S e).idle)

module _ {kinds host table : Bytes} {at : ℕ} {q : Stop} (S : StoppedBy kinds host table at q) where
  module _ {start to : ℕ} (e : q ≡ Host start to) where
    host_begun : at ≤ start
    unfolding start_of
    host_begun = rw e at S.begun

    pub host_onward : start ≤ to
    unfolding start_of end_of
    host_onward = rw e at S.onward

    pub host_inside : to ≤ length table
    unfolding end_of
    host_inside = rw e at S.inside

    pub host_fits : length table * 1 < 2 ^ 63 → Fits w64 (to + 1)
    host_fits h = record { fits = omega (arith, host_inside) }

    pub host_less : at < length table → length table - (to + 1) < length table - at
    host_less h = omega (arith, host_begun, host_onward)

    module _ {m d last from : ℕ} (I : ShallowBy kinds host table m d last from at) where
      pub host_stop : ShallowBy kinds host table m d last from start
      host_stop = record { onward = omega (arith, I.onward, host_begun); is = λ K P. up_to_host (S.is K) (I.is K P) e }

      pub host_passed : {r : Bool}
          → r ≡ not ((ends_at_label (take (to - start) (drop start table)) host && ltb m (length (labels (take (to - start) (drop start table)))))
          || (ltb (length (take (length host - last) (drop last host))) (length (take (to - start) (drop start table))) && ends_at_label (take (length host - last) (drop last host)) (take (to - start) (drop start table))))
          → r ≡ true → ShallowBy kinds host table m d last from (to + 1)
      host_passed f g = record { onward = omega (arith, I.onward, host_begun, host_onward); is = λ K P. with_host (S.is K) (I.is K P) e P.stands f g }

  module _ {start : ℕ} (e : q ≡ Other start) where
    other_begun : at ≤ start
    unfolding start_of
    other_begun = rw e at S.begun

    pub other_inside : start ≤ length table
    unfolding end_of
    other_inside = rw e at S.inside

    module _ {m d last from : ℕ} (I : ShallowBy kinds host table m d last from at) where
      pub other_stop : ShallowBy kinds host table m d last from start
      other_stop = record { onward = omega (arith, I.onward, other_begun); is = λ K P. up_to_other (S.is K) (I.is K P) e }

      pub other_passed : {next : ℕ} → Skipped table start next → ShallowBy kinds host table m d last from next
      other_passed P = record {
        onward = omega (arith, I.onward, other_begun, P.onward);
        is = λ K L. shallow_on (other_stop.is K L) (shallow_of m d (P.is host));
      }

    pub other_less : {next : ℕ} → Skipped table start next → (next ≡ start → ⊥) → at < length table → length table - next < length table - at
    other_less P n h = omega (arith, other_begun, P.onward, n)

-- no labels begin behind the host
pub shallow_outside : {kinds host table : Bytes} {m d last from : ℕ} → length host < last → ShallowBy kinds host table m d last from from
shallow_outside h = record { onward = omega arith; is = λ K P. absurd (omega (arith, P.stands.inside)) }

pub shallow_starts : (kinds host table : Bytes) (m d last from : ℕ) → ShallowBy kinds host table m d last from from
shallow_starts kinds host table m d last from = record { onward = omega arith; is = λ K P. shallow_of m d (idle_none host table from P.inside) }

-- by the kinds for the host
pub shallow_own : {kinds host table : Bytes} {m d last from to : ℕ} → ShallowBy kinds host table m d last from to → KindsOf host kinds → Shallows host table m d last from to
shallow_own I K = record { onward = I.onward; is = I.is K }

pub ruleset skip_laws = (
  skipped_none,
  line_skipped,
  no_slash,
  slash_ends,
  one_slash,
  line_ends,
  comment_fits,
  comment_skipped,
  skipped_more,
  host_onward,
  host_inside,
  host_fits,
  host_less,
  host_stop,
  host_passed,
  other_inside,
  other_stop,
  other_passed,
  other_less,
  shallow_outside,
  shallow_starts,
  rules,
)
