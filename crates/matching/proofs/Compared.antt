-- Hosts and ports of two identifiers compared. Assumes nothing.
use mathlib.Core.Path.{◌≡◌, ◌∙◌}
use mathlib.Core.Bool.{Bool, true, false, and-true, and-false, and-eq-true_iff}
use Rattle.std.specs.Prelude.{Option, None, Some}
use Prim.Native.Nat.{ℕ, ◌-◌}
use lib.ListN.{take, drop}
use lib.Dec.{eqb}
use borrow.Author.Tests.{eq-eqb, ne_eqb}
use Rattle.ascii.specs.Ascii.{Bytes, same, same_no_case}
use Rattle.origin.specs.Origin.{Authority, effective_port, web_origin}
use Rattle.origin.specs.code.Parts.{part, authority_in, Reads}
use Rattle.origin.specs.declared.Parts.{Parts}
use Rattle.origin.proofs.Readings.{found, is_none_lem, found_inside}
use Rattle.matching.specs.Matching.{same_host, same_origin, facet_matches}
use Rattle.matching.specs.code.AtPlaces.{same_at}

-- ---- by their places

pub hosts_compared : (s t : Bytes) (a b : ℕ) {r : Bool} → r ≡ same_no_case (take (a - 8) (drop 8 s)) (take (b - 8) (drop 8 t)) → r ≡ same_no_case (part s 8 a) (part t 8 b)
unfolding part
hosts_compared s t a b e = e

module _ (s t : Bytes) (p q : Parts) where
  pub ports_equal : {r : Bool} → p.port ≡ q.port → r ≡ same_no_case (part s 8 p.end) (part t 8 q.end) → r ≡ same_at s p t q
  unfolding same_at
  ports_equal e f = f ∙ rw (eq-eqb p.port q.port e, and-true)

  pub ports_differ : (p.port ≡ q.port → ⊥) → false ≡ same_at s p t q
  unfolding same_at
  ports_differ n = rw (ne_eqb p.port q.port n, and-false)

module _ (s : Bytes) {q : Option Parts} (R : Reads s (web_origin s) q) where
  pub host_no_caller : (o : Option Authority) → q ≡ None → false ≡ same_host (web_origin s) o
  unfolding same_host
  host_no_caller None h = rw (← is_none_lem R h)
  host_no_caller (Some b) h = rw (← is_none_lem R h)

  pub match_native : (t : Bytes) {r : Bool} → q ≡ None → r ≡ same s t → r ≡ facet_matches s t
  unfolding facet_matches
  match_native t h f = f ∙ rw (← is_none_lem R h)

  module _ {p : Parts} {o : Option Authority} {t : Bytes} {q' : Option Parts} (h : q ≡ Some p) (Q : Reads t o q') where
    pub host_no_other : q' ≡ None → false ≡ same_host (web_origin s) o
    unfolding same_host authority_in
    host_no_other k = rw (← is_none_lem Q k, ← (found R h).is)

    pub host_both : {p' : Parts} {r : Bool} → q' ≡ Some p' → r ≡ same_no_case (part s 8 p.end) (part t 8 p'.end) → r ≡ same_host (web_origin s) o
    unfolding same_host authority_in
    host_both k f = f ∙ rw (← (found Q k).is, ← (found R h).is)

  module _ {p : Parts} {t : Bytes} {q' : Option Parts} (h : q ≡ Some p) (Q : Reads t (web_origin t) q') where
    pub match_no_other : q' ≡ None → false ≡ facet_matches s t
    unfolding facet_matches same_origin authority_in
    match_no_other k = rw (← is_none_lem Q k, ← (found R h).is)

    pub match_both : {p' : Parts} {r : Bool} → q' ≡ Some p' → r ≡ same_at s p t p' → r ≡ facet_matches s t
    unfolding facet_matches same_origin authority_in same_at
    match_both k f = f ∙ rw (← (found R h).is, ← (found Q k).is, (found_inside R h).port_is, (found_inside Q k).port_is)

-- ---- two web origins

pub same_origin_host : (a b : Authority) → same_origin (Some a) (Some b) ≡ true → same_no_case a.host b.host ≡ true
unfolding same_origin
same_origin_host a b e = ((and-eq-true_iff (same_no_case a.host b.host) (eqb (effective_port a.port) (effective_port b.port))).0 e).0
