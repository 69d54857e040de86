-- What stands before a member's value, and the member by it.
use Rattle.std.specs.Prelude.{Option, Some, None}
use mathlib.Core.Path.{◌≡◌, refl, sym, ap, ap₂, ◌∙◌}
use mathlib.Core.List.{[], ◌∷◌}
use mathlib.Core.Bool.{false}
use Prim.Native.Nat.{ℕ, ◌+◌}
use native.Mathlib.Omega.{arith}
use Rattle.ascii.specs.Ascii.{Bytes, among, text}
use Rattle.json_text.specs.Reader.{Read, got, bad, Reader, one_of, mapped}
use Rattle.json_text.specs.Lexical.{ws, read_string}
use Rattle.json_text.specs.code.Places.{Peeked, read_at, place_of}
use Rattle.json_text.proofs.Steps.{wide, on, then_bad, one_yes, one_no, give_at, giving_at, place_mapped, found, missed, is_one}
use Rattle.json_text.proofs.TakenApart.{bound}
use Rattle.json_values.specs.Json.{Json, read_member, read_value}
use Rattle.json_values.specs.code.MemberName.{member_name}

-- ---- the way through a name

module _ (s : Bytes) (i : ℕ) {q : Option ℕ} (e : q ≡ place_of (read_at read_string s i)) where
  pub name_bad : q ≡ None → None ≡ place_of (read_at member_name s i)
  unfolding member_name place_of
  name_bad h = rw (then_bad _ _ _ _ (missed _ e h))

  module _ {j k : ℕ} {b : Option ℕ} (h : q ≡ Some j) (f : read_at ws s j ≡ got tt k) (g : Peeked s k b) where
    pub name_other : among (58 ∷ []) (wide b) ≡ false → None ≡ place_of (read_at member_name s i)
    unfolding member_name place_of
    name_other n = rw (on _ _ _ _ (found _ e h).1, on _ _ _ _ f, then_bad _ _ _ _ (one_no g _ n))

    pub name_on : {m : ℕ} → wide b ≡ 58 → read_at ws s (k + 1) ≡ got tt m → Some m ≡ place_of (read_at member_name s i)
    unfolding member_name place_of
    name_on n u = rw (on _ _ _ _ (found _ e h).1, on _ _ _ _ f, on _ _ _ _ (one_yes g _ (is_one (wide b) 58 n)), on _ _ _ _ u, give_at)

-- ---- what stands before a member's value

pub record Named (s : Bytes) (i : ℕ) (n : Bytes) (k : ℕ) : Type 0 where
  pub behind_name : ℕ
  pub name_read : read_at read_string s i ≡ got n behind_name
  pub to_value : (p : Reader Json) → read_at (read_member p) s i ≡ mapped (λ v. (n, v)) (read_at p s k)

member_along : (p : Reader Json) (s : Bytes) (i : ℕ) {j k l m : ℕ} {n : Bytes} {u w z : Unit {0}} → read_at read_string s i ≡ got n j → read_at ws s j ≡ got u k → read_at (one_of (text ":")) s k ≡ got w l → read_at ws s l ≡ got z m
    → read_at (read_member p) s i ≡ mapped (λ v. (n, v)) (read_at p s m)
unfolding read_member
member_along p s i {m} {n} a b c d = on _ _ _ _ a ∙ on _ _ _ _ b ∙ on _ _ _ _ c ∙ on _ _ _ _ d ∙ giving_at p (λ v. (n, v)) s m

pub named : {s : Bytes} {i : ℕ} {n : Bytes} {k : ℕ} → read_at member_name s i ≡ got n k → Named s i n k
unfolding member_name
named {s} {i} {n} {k} e =
    let a = bound _ _ s i e in
    let b = bound _ _ s a.place a.rest_read in
    let c = bound _ _ s b.place b.rest_read in
    let d = bound _ _ s c.place c.rest_read in
    let g : got a.value d.place ≡ got n k = sym (give_at a.value s d.place) ∙ d.rest_read in
    let x : a.value ≡ n = cc in
    let y : d.place ≡ k = cc in
    record {
      behind_name = a.place;
      name_read = a.first_read ∙ ap (λ (t : Bytes). got t a.place) x;
      to_value = λ p. member_along p s i a.first_read b.first_read c.first_read d.first_read ∙ ap₂ (λ (t : Bytes) (m : ℕ). mapped (λ v. (t, v)) (read_at p s m)) x y;
    }

pub unnamed : (p : Reader Json) (s : Bytes) (i : ℕ) → read_at member_name s i ≡ bad → read_at (read_member p) s i ≡ bad
unfolding member_name
unnamed p s i e = go (read_at (read_member p) s i) refl
  where
    go : (r : Read (Bytes × Json)) → read_at (read_member p) s i ≡ r → r ≡ bad
    go bad f = refl
    go (got m j) f = unfold read_member in
        (let a = bound _ _ s i f in
        let b = bound _ _ s a.place a.rest_read in
        let c = bound _ _ s b.place b.rest_read in
        let d = bound _ _ s c.place c.rest_read in
        let g = on _ _ _ _ a.first_read ∙ on _ _ _ _ b.first_read ∙ on _ _ _ _ c.first_read ∙ on _ _ _ _ d.first_read ∙ give_at a.value s d.place in
        let z : ◌≡◌ {A = ℕ} 0 1 = cc (sym e ∙ g) in
        absurd (omega arith))

-- ---- a member, by its name and its value

module _ (d : ℕ) (s : Bytes) (i : ℕ) {q : Option ℕ} (e : q ≡ place_of (read_at member_name s i)) where
  pub member_bad : q ≡ None → None ≡ place_of (read_at (read_member (read_value d)) s i)
  unfolding place_of
  member_bad h = rw (unnamed (read_value d) s i (missed _ e h))

  pub member_on : {k : ℕ} {r : Option ℕ} → q ≡ Some k → r ≡ place_of (read_at (read_value d) s k) → r ≡ place_of (read_at (read_member (read_value d)) s i)
  member_on {k} h v =
      let f = found _ e h in
      rw ((named f.1).to_value (read_value d)) (v ∙ sym (place_mapped (λ v. (f.0, v)) (read_at (read_value d) s k)))
