-- Bytes written into a lent slice, and normal forms written by their parts. Assumes nothing.
use mathlib.Core.Path.{◌≡◌, refl, sym, ap, ap₂, ◌∙◌}
use mathlib.Core.Bool.{Bool, true, false}
use mathlib.Core.List.{[], ◌∷◌, ◌++◌, map, append_assoc, append-nil}
use Rattle.std.specs.Prelude.{Option, None, Some}
use Rattle.std.specs.Char.{to_ascii_lowercase}
use Prim.Native.Nat.{ℕ, suc, ◌+◌, ◌-◌, ◌≤◌, ◌<◌}
use native.Mathlib.Numerals.{add-one}
use native.Mathlib.Omega.{arith}
use lib.ListN.{length, get_or, take, drop, length-append, length-drop}
use lib.Seq.{drop-cons, length-take-le, paste-zero, take_at, drop_at, drop-append-add, drop-drop}
use lib.Dec.{leb}
use borrow.Author.Rules.{rules}
use borrow.Rule.Slice.PartMut.{put_mid}
use borrow.Author.Tests.{le-leb, leb-true, leb-false}
use Rattle.ascii.specs.Ascii.{Bytes, is_empty, lower, same, text}
use Rattle.ascii.proofs.ListLaws.{filled}
use Rattle.ascii.proofs.Compare.{length_lower}
use Rattle.ascii.proofs.Library.{lower_is}
use Rattle.origin.specs.Origin.{Authority, web_origin, shown_port, normal_web, normal_of, normal_form}
use Rattle.origin.specs.code.Parts.{part, authority_in, Reads}
use Rattle.origin.specs.declared.Parts.{Parts}
use Rattle.origin.proofs.Readings.{is_none_lem, found_low, found_middle, found_colon, found_tail}
use Rattle.normal_forms.specs.code.Normals.{is_hidden, port_in, web_at, normal_by}
use Rattle.normal_forms.specs.code.Places.{Placed}
use Rattle.normal_forms.specs.declared.web.Web.{Web}
use Rattle.normal_forms.specs.code.Writing.{written_at, behind, Wrote}

-- ---- bytes written

-- no room
pub wrote_none : {y : Bytes} {at n : ℕ} {o : Bytes} {q : Bool} → q ≡ leb (at + n) (length o) → q ≡ false → n ≡ length y → Wrote y at o o at
unfolding written_at behind
wrote_none {y} {at} {n} {o} e h l = let f : leb (at + length y) (length o) ≡ false = rw (← l) (sym e ∙ h) in record { is = rw f; place = rw f }

pub wrote_part : {x : Bytes} {at : ℕ} {o p : Bytes} {q : Bool} → q ≡ leb (at + length x) (length o) → q ≡ true → p ≡ x → Wrote x at o (put_mid at (at + length x - at) o p) (at + length x)
unfolding written_at behind
wrote_part {x} {at} {o} {p} e h f =
    let z : at + length x - at ≡ length x = omega arith in
    let g : leb (at + length x) (length o) ≡ true = sym e ∙ h in
    record { is = rw (g, f, z, drop-drop, append_assoc); place = rw g }

-- ---- one behind the other

module _ {x : Bytes} {at : ℕ} {o o₁ : Bytes} {a : ℕ} (W : Wrote x at o o₁ a) (h : at + length x ≤ length o) where
  pub wrote_is : o₁ ≡ take at o ++ x ++ drop (at + length x) o
  unfolding written_at
  wrote_is = W.is ∙ rw (le-leb (at + length x) (length o) h)

  pub wrote_place : a ≡ at + length x
  unfolding behind
  wrote_place = W.place ∙ rw (le-leb (at + length x) (length o) h)

  front_length : length (take at o ++ x) ≡ at + length x
  front_length = omega (arith, length-append (take at o) x, length-take-le at o (omega arith))

  pub wrote_length : length o₁ ≡ length o
  wrote_length =
      omega (
        arith,
        ap length wrote_is,
        length-append (take at o ++ x) (drop (at + length x) o),
        front_length,
        length-drop (at + length x) o,
      )

pub wrote_then : {x y : Bytes} {at : ℕ} {o o₁ o₂ : Bytes} {a b : ℕ} → Wrote x at o o₁ a → Wrote y a o₁ o₂ b → at + length x + length y ≤ length o → Wrote (x ++ y) at o o₂ b
unfolding written_at behind
wrote_then {x} {y} {at} {o} {o₁} {o₂} {a} {b} W U h =
    let k : at + length x ≤ length o = omega arith in
    let p : a ≡ at + length x = wrote_place W k in
    let l : length o₁ ≡ length o = wrote_length W k in
    let m : a + length y ≤ length o₁ = omega arith in
    let n : at + length (x ++ y) ≤ length o = omega (arith, length-append x y) in
    let f : length (take at o ++ x) ≡ a = front_length W k ∙ sym p in
    let t : take a o₁ ≡ take at o ++ x = rw (wrote_is W k) (take_at (take at o ++ x) (drop (at + length x) o) a f) in
    let g : length (take at o ++ x) + length y ≡ a + length y = ap (λ (j : ℕ). j + length y) f in
    let j : at + length x + length y ≡ at + length (x ++ y) = omega (arith, length-append x y) in
    let d : drop (a + length y) o₁ ≡ drop (at + length (x ++ y)) o = rw (wrote_is W k, ← g, drop-append-add, drop-drop, j) in
    record {
      is = wrote_is U m ∙ rw (t, d, le-leb (at + length (x ++ y)) (length o) n, append_assoc (take at o) x y);
      place = wrote_place U m ∙ rw (le-leb (at + length (x ++ y)) (length o) n) (omega (arith, length-append x y));
    }

-- ---- in lower case

lower_map : (x : Bytes) → map to_ascii_lowercase x ≡ lower x
unfolding lower
lower_map [] = refl
lower_map (b ∷ x) = ap₂ ◌∷◌ (lower_is b) (lower_map x)

module _ {x : Bytes} {at : ℕ} {o o₁ : Bytes} {e : ℕ} (W : Wrote x at o o₁ e) where
  stays : leb (at + length x) (length o) ≡ false → Wrote (lower x) at o o₁ e
  unfolding written_at behind
  stays f = record { is = W.is ∙ rw (length_lower, f); place = W.place ∙ rw (length_lower, f) }

  no_room : leb (at + length x) (length o) ≡ false → e ≡ at
  unfolding behind
  no_room f = W.place ∙ rw f

  pub lower_high : at < e → e ≤ length o₁
  lower_high h = go (leb (at + length x) (length o)) refl
    where
      go : (u : Bool) → leb (at + length x) (length o) ≡ u → e ≤ length o₁
      go true f = let k = leb-true (at + length x) (length o) f in omega (arith, wrote_place W k, wrote_length W k)
      go false f = absurd (omega (arith, no_room f))

  pub lower_part : {p : Bytes} → at < e → p ≡ map to_ascii_lowercase (take (e - at) (drop at o₁)) → Wrote (lower x) at o (put_mid at (e - at) o₁ p) e
  unfolding written_at behind
  lower_part {p} h g = go (leb (at + length x) (length o)) refl
    where
      go : (u : Bool) → leb (at + length x) (length o) ≡ u → Wrote (lower x) at o (put_mid at (e - at) o₁ p) e
      go false f = absurd (omega (arith, no_room f))
      go true f =
          let k = leb-true (at + length x) (length o) f in
          let i : o₁ ≡ take at o ++ (x ++ drop (at + length x) o) = wrote_is W k ∙ append_assoc (take at o) x (drop (at + length x) o) in
          let l : length (take at o) ≡ at = length-take-le at o (omega arith) in
          let m : length x ≡ e - at = omega (arith, wrote_place W k) in
          let t : take at o₁ ≡ take at o = rw i (take_at (take at o) (x ++ drop (at + length x) o) at l) in
          let d : drop at o₁ ≡ x ++ drop (at + length x) o = rw i (drop_at (take at o) (x ++ drop (at + length x) o) at l) in
          let y : take (e - at) (x ++ drop (at + length x) o) ≡ x = take_at x (drop (at + length x) o) (e - at) m in
          let z : drop (e - at) (x ++ drop (at + length x) o) ≡ drop (at + length x) o = drop_at x (drop (at + length x) o) (e - at) m in
          let q : p ≡ lower x = g ∙ (rw (d, y, lower_map)) in
          record { is = rw (length_lower, f, t, d, z, q, append_assoc); place = rw (length_lower, f) (wrote_place W k) }

pub lower_none : {x : Bytes} {at : ℕ} {o o₁ : Bytes} {e : ℕ} → Wrote x at o o₁ e → e ≤ at → Wrote (lower x) at o o₁ e
unfolding lower
lower_none {x = []} W h = W
lower_none {x = b ∷ x} {at = at} {o = o} {o₁ = o₁} {e = e} W h = go (leb (at + length (b ∷ x)) (length o)) refl
  where
    go : (u : Bool) → leb (at + length (b ∷ x)) (length o) ≡ u → Wrote (lower (b ∷ x)) at o o₁ e
    go true f = let k = leb-true (at + length (b ∷ x)) (length o) f in absurd (omega (arith, wrote_place W k))
    go false f = stays W f

-- ---- ports

pub part_length : (s : Bytes) (a b : ℕ) → a ≤ b → b ≤ length s → length (part s a b) ≡ b - a
unfolding part
part_length s a b h k = length-take-le (b - a) (drop a s) (omega (arith, length-drop a s))

part_colon : (s : Bytes) (end tail : ℕ) → get_or s end 0 ≡ 58 → end + 1 ≤ tail → tail ≤ length s → part s end tail ≡ 58 ∷ part s (end + 1) tail
unfolding part
part_colon s end tail e h k =
    let l : end < length s = omega arith in
    let n : tail - end ≡ suc (tail - (end + 1)) = omega arith in
    rw (n, drop-cons s end 0 l, e, add-one)

-- no bytes, at any place
pub nothing_wrote : (at : ℕ) (o : Bytes) → Wrote [] at o o at
unfolding written_at behind
nothing_wrote at o = go (leb (at + 0) (length o)) refl
  where
    go : (u : Bool) → leb (at + 0) (length o) ≡ u → Wrote [] at o o at
    go true e = record { is = rw e (paste-zero o at []); place = rw e (omega arith) }
    go false e = record { is = rw e; place = rw e }

module _ (w : Web) where
  pub hidden_none : w.tail ≤ w.end + 1 → true ≡ is_hidden (port_in w)
  unfolding is_hidden part
  hidden_none h = let z : w.tail - (w.end + 1) ≡ 0 = omega arith in rw z

  pub hidden_some : {r : Bool} → w.end + 1 < w.tail → r ≡ same (take (w.tail - (w.end + 1)) (drop (w.end + 1) w.s.now)) (text "443") → r ≡ is_hidden (port_in w)
  unfolding is_hidden part
  hidden_some h e =
      let f : is_empty (port_in w) ≡ false = filled (port_in w) (omega (arith, w.placed.high, part_length w.s.now (w.end + 1) w.tail (omega arith) w.placed.high)) in
      e ∙ rw f

  module _ {b : Bool} (e : b ≡ is_hidden (port_in w)) where
    host_length : length (text "https://" ++ lower (part w.s.now 8 w.end)) ≡ w.end
    host_length =
        omega (
          arith,
          w.placed.low,
          length-append (text "https://") (lower (part w.s.now 8 w.end)),
          length_lower (part w.s.now 8 w.end),
          part_length w.s.now 8 w.end w.placed.low (omega (arith, w.placed.middle, w.placed.high)),
        )

    web_hidden : b ≡ true → web_at w ≡ text "https://" ++ lower (part w.s.now 8 w.end)
    unfolding web_at shown_port is_hidden
    web_hidden h = rw (← e, h) (append-nil (text "https://" ++ lower (part w.s.now 8 w.end)))

    web_shown : b ≡ false → web_at w ≡ text "https://" ++ lower (part w.s.now 8 w.end) ++ (text ":" ++ port_in w)
    unfolding web_at shown_port is_hidden
    web_shown h = rw (← e, h)

    pub shown_from : b ≡ false → w.end + 1 ≤ w.tail
    shown_from h = go (leb (w.end + 1) w.tail) refl
      where
        go : (u : Bool) → leb (w.end + 1) w.tail ≡ u → w.end + 1 ≤ w.tail
        go true f = leb-true (w.end + 1) w.tail f
        go false f =
            let k : w.tail < w.end + 1 = leb-false (w.end + 1) w.tail f in
            let z : true ≡ is_hidden (port_in w) = hidden_none (omega arith) in
            let y : ◌≡◌ {A = ℕ} 0 1 = cc in
            absurd (omega arith)

    pub length_hidden : b ≡ true → w.end ≡ length (web_at w)
    length_hidden h = rw (web_hidden h) (sym host_length)

    pub length_shown : b ≡ false → w.tail ≡ length (web_at w)
    length_shown h =
        rw (web_shown h)
        (omega (
          arith,
          shown_from h,
          host_length,
          length-append (text "https://" ++ lower (part w.s.now 8 w.end)) (text ":" ++ port_in w),
          part_length w.s.now (w.end + 1) w.tail (shown_from h) w.placed.high,
        ))

    pub port_wrote_none : {at : ℕ} {o : Bytes} → b ≡ true → Wrote (shown_port (port_in w)) at o o at
    unfolding shown_port is_hidden
    port_wrote_none {at} {o} h = rw (← e, h) (nothing_wrote at o)

    port_shown : b ≡ false → shown_port (port_in w) ≡ part w.s.now w.end w.tail
    unfolding shown_port is_hidden
    port_shown h = rw (← e, h) (sym (part_colon w.s.now w.end w.tail (w.placed.colon (omega (arith, shown_from h))) (shown_from h) w.placed.high))

    pub port_wrote_shown : {at r : ℕ} {o o₁ : Bytes} → b ≡ false → Wrote (take (w.tail - w.end) (drop w.end w.s.now)) at o o₁ r → Wrote (shown_port (port_in w)) at o o₁ r
    unfolding part
    port_wrote_shown h W = rw (port_shown h) W

  -- by their parts
  pub web_wrote : {q : Bool} {n at : ℕ} {o o₁ o₂ o₃ : Bytes} {a c r : ℕ} → q ≡ leb (at + n) (length o) → q ≡ true → n ≡ length (web_at w)
      → Wrote (text "https://") at o o₁ a → Wrote (lower (take (w.end - 8) (drop 8 w.s.now))) a o₁ o₂ c → Wrote (shown_port (port_in w)) c o₂ o₃ r
      → Wrote (web_at w) at o o₃ r
  unfolding web_at part
  web_wrote {n = n} {at = at} {o = o} f g l W U X =
      let h : at + n ≤ length o = leb-true (at + n) (length o) (sym f ∙ g) in
      let m : length (text "https://" ++ lower (part w.s.now 8 w.end) ++ shown_port (port_in w)) ≡ length (text "https://" ++ lower (part w.s.now 8 w.end)) + length (shown_port (port_in w)) =
      length-append (text "https://" ++ lower (part w.s.now 8 w.end)) (shown_port (port_in w)) in
      let j : length (text "https://" ++ lower (part w.s.now 8 w.end)) ≡ 8 + length (lower (part w.s.now 8 w.end)) = length-append (text "https://") (lower (part w.s.now 8 w.end)) in
      wrote_then (wrote_then W U (omega arith)) X (omega arith)

-- ---- normal forms

module _ (s : Bytes) where
  pub read_none : Reads s (web_origin s) None → normal_by s None ≡ normal_form s
  unfolding normal_form normal_of normal_by
  read_none R = rw (← is_none_lem R refl)

  pub read_some : (w : Web) {p : Parts} → Reads s (web_origin s) (Some p) → w.s.now ≡ s → w.end ≡ p.end → w.tail ≡ p.tail → normal_by s (Some w) ≡ normal_form s
  unfolding normal_form normal_of normal_web normal_by web_at authority_in
  read_some w R e f g = rw (← R.is, e, f, g)

module _ (s : Bytes) {q : Option Web} (N : normal_by s q ≡ normal_form s) where
  normal_none : q ≡ None → normal_form s ≡ s
  unfolding normal_by
  normal_none h = sym N ∙ rw h

  pub normal_own : q ≡ None → length s ≡ length (normal_form s)
  normal_own h = rw (normal_none h)

  pub normal_wrote_own : {at r : ℕ} {o o₁ : Bytes} → q ≡ None → Wrote s at o o₁ r → Wrote (normal_form s) at o o₁ r
  normal_wrote_own h W = rw (normal_none h) W

  module _ {w : Web} (h : q ≡ Some w) where
    normal_web_lem : normal_form s ≡ web_at w
    unfolding normal_by
    normal_web_lem = sym N ∙ rw h

    pub normal_length : {n : ℕ} → n ≡ length (web_at w) → n ≡ length (normal_form s)
    normal_length e = rw normal_web_lem e

    pub normal_wrote : {at r : ℕ} {o o₁ : Bytes} → Wrote (web_at w) at o o₁ r → Wrote (normal_form s) at o o₁ r
    normal_wrote W = rw normal_web_lem W

pub found_placed : {s : Bytes} {o : Option Authority} {p : Parts} → Reads s o (Some p) → Placed s p.end p.tail
found_placed R = record { low = found_low R refl; middle = found_middle R refl; high = found_tail R refl; colon = found_colon R refl }

pub ruleset write_laws = (wrote_none, wrote_part, lower_high, lower_part, lower_none, hidden_none, hidden_some, length_hidden, length_shown, port_wrote_none, port_wrote_shown, web_wrote, read_none, read_some, normal_own, normal_wrote_own, normal_length, normal_wrote, found_placed, rules)
