-- An entry's normal form matches the same callers, and the place of the first matching entry is the same among normal forms. Assumes nothing.
use mathlib.Core.Path.{◌≡◌, refl, sym, ap, ◌∙◌}
use mathlib.Core.List.{List, [], ◌∷◌, map}
use mathlib.Core.Bool.{Bool, true, false}
use Rattle.std.specs.Prelude.{Option, None, Some}
use Prim.Native.Nat.{ℕ}
use native.Mathlib.Omega.{arith}
use Rattle.ascii.specs.Ascii.{Bytes, same, same_no_case, lower}
use Rattle.ascii.proofs.Compare.{same_eq}
use Rattle.origin.specs.Origin.{Authority, web_origin, normal_form}
use Rattle.normal_forms.specs.code.Normals.{normal_authority}
use Rattle.normal_forms.proofs.NormalForms.{own_normal, lower_twice, origin_normal, host_normal, port_normal}
use Rattle.matching.specs.Matching.{same_origin, facet_matches}
use Rattle.decision.specs.Decide.{first_match}

same_lower : (g h : Bytes) → same_no_case g (lower h) ≡ same_no_case g h
unfolding same_no_case
same_lower g h = rw lower_twice

differ : (s t : Bytes) (b : Authority) → web_origin s ≡ None → web_origin t ≡ Some b → same s t ≡ false
differ s t b p q = go (same s t) refl
  where
    go : (u : Bool) → same s t ≡ u → same s t ≡ false
    go false e = e
    go true e = let w : s ≡ t = same_eq s t e in let z : ◌≡◌ {A = ℕ} 0 1 = cc in absurd (omega arith)

match_web : (caller t : Bytes) (c b : Authority) → web_origin caller ≡ Some c → web_origin t ≡ Some b → facet_matches caller t ≡ same_origin (Some c) (Some b)
unfolding facet_matches
match_web caller t c b p q = rw (p, q, facet_matches)

same_normal : (c a : Authority) → same_origin (Some c) (Some (normal_authority a)) ≡ same_origin (Some c) (Some a)
unfolding same_origin
same_normal c a = rw (host_normal a, same_lower c.host a.host, port_normal a)

match_own : (caller t : Bytes) → web_origin caller ≡ None → facet_matches caller t ≡ same caller t
unfolding facet_matches
match_own caller t p = rw (p, facet_matches)

-- an entry's normal form matches the same callers
match_normal : (caller e : Bytes) → facet_matches caller (normal_form e) ≡ facet_matches caller e
match_normal caller e = go (web_origin e) refl (web_origin caller) refl
  where
    go : (o : Option Authority) → web_origin e ≡ o → (c : Option Authority) → web_origin caller ≡ c → facet_matches caller (normal_form e) ≡ facet_matches caller e
    go None p c q = ap (facet_matches caller) (own_normal e p)
    go (Some a) p None q =
        match_own caller (normal_form e) q ∙ differ caller (normal_form e) (normal_authority a) q (origin_normal e a p)
        ∙ sym (match_own caller e q ∙ differ caller e a q p)
    go (Some a) p (Some c) q =
        match_web caller (normal_form e) c (normal_authority a) q (origin_normal e a p)
        ∙ same_normal c a
        ∙ sym (match_web caller e c a q p)

pub first_normal : (caller : Bytes) (es : List Bytes) → first_match caller (map normal_form es) ≡ first_match caller es
unfolding first_match
first_normal caller [] = refl
first_normal caller (e ∷ es) = rw (match_normal caller e, first_normal caller es)
