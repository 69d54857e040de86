-- The ways through an escape.
use mathlib.Core.Path.{◌≡◌, refl, ap, sym, ◌∙◌}
use mathlib.Core.Bool.{Bool, true, false, ◌&&◌}
use mathlib.Core.List.{[], ◌∷◌}
use Rattle.std.specs.Prelude.{slice_get, Option, None, Some}
use Prim.Native.Nat.{ℕ, ◌+◌, ◌-◌, ◌*◌, ◌^◌, ◌≤◌, ◌<◌}
use native.Mathlib.Omega.{arith}
use mir.Syntax.{w64}
use mir.Val.{Fits}
use lib.Dec.{leb}
use lib.ListN.{length, drop}
use borrow.Author.Tests.{leb-true}
use Rattle.ascii.specs.Ascii.{Bytes, between}
use Rattle.json_text.specs.Reader.{got, bad, peek, more, behind, ◌>>=◌, satisfy, one_byte, word, give, lead◌to◌then◌else◌}
use Rattle.json_text.specs.Lexical.{hex_value, hex_digit, hex4, low_after, code_point, escaped}
use Rattle.json_text.specs.code.Places.{Peeked, read_at, place_of, point_of, hex_at}
use Rattle.json_text.proofs.Steps.{wide, seen, here, in_text, on, then_bad, lead_yes, lead_no, give_at, fail_at, found, missed, point_found, point_missed, inside, under, above}

-- ---- one hexadecimal digit

-- no byte above `f` has a number
pub hex_last : (b v : ℕ) → hex_value b ≡ Some v → b ≤ 102
unfolding hex_value
hex_last b v e = grind arith

module _ (s : Bytes) (i : ℕ) where
  pub digit_past : {q : Option ℕ} → Peeked s i q → q ≡ None → None ≡ hex_at s i
  unfolding hex_at hex_value
  digit_past g e = let z : 256 ≡ peek (drop i s) = ap wide (sym e) ∙ seen g in rw (← z)

  module _ {r : Option ℕ} where
    pub digit_in : {q : Option ℕ} {b : ℕ} → Peeked s i q → q ≡ Some b → r ≡ hex_value b → r ≡ hex_at s i
    unfolding hex_at
    digit_in {b} g e f = let z : b ≡ peek (drop i s) = ap wide (sym e) ∙ seen g in rw (← z) f

    module _ (e : r ≡ hex_at s i) where
      hex_no : r ≡ None → read_at hex_digit s i ≡ bad
      unfolding read_at hex_digit hex_at one_byte more
      hex_no h = rw (sym e ∙ h)

      module _ {v : ℕ} (h : r ≡ Some v) where
        hex_yes : read_at hex_digit s i ≡ got v (i + 1)
        unfolding read_at hex_digit hex_at one_byte more
        hex_yes = rw (sym e ∙ h)

        pub fits_digit : length s < 2 ^ 64 → Fits w64 (i + 1)
        fits_digit l = record { fits = omega (arith, within (slice_get s i) refl) }
          where
            within : (x : Option ℕ) → slice_get s i ≡ x → i < length s
            within (Some b) f = in_text s i (record { is = sym f })
            within None f =
                let z : ◌≡◌ {A = Option ℕ} None (Some v) = digit_past (record { is = refl }) f ∙ sym e ∙ h in
                let y : ◌≡◌ {A = ℕ} 0 1 = cc in
                absurd (omega arith)

-- ---- four of them

module _ (s : Bytes) (i : ℕ) {q : Option ℕ} (e : q ≡ hex_at s i) where
  pub hex4_first : q ≡ None → None ≡ point_of (read_at hex4 s i)
  unfolding hex4 point_of
  hex4_first h = rw (then_bad _ _ _ _ (hex_no s i e h))

  module _ {a : ℕ} (h : q ≡ Some a) {q2 : Option ℕ} (e2 : q2 ≡ hex_at s (i + 1)) where
    pub hex4_second : q2 ≡ None → None ≡ point_of (read_at hex4 s i)
    unfolding hex4 point_of
    hex4_second k = rw (on _ _ _ _ (hex_yes s i e h), then_bad _ _ _ _ (hex_no s _ e2 k))

    module _ {a2 : ℕ} (h2 : q2 ≡ Some a2) {q3 : Option ℕ} (e3 : q3 ≡ hex_at s (i + 1 + 1)) where
      pub hex4_third : q3 ≡ None → None ≡ point_of (read_at hex4 s i)
      unfolding hex4 point_of
      hex4_third k = rw (on _ _ _ _ (hex_yes s i e h), on _ _ _ _ (hex_yes s _ e2 h2), then_bad _ _ _ _ (hex_no s _ e3 k))

      module _ {a3 : ℕ} (h3 : q3 ≡ Some a3) {q4 : Option ℕ} (e4 : q4 ≡ hex_at s (i + 1 + 1 + 1)) where
        pub hex4_fourth : q4 ≡ None → None ≡ point_of (read_at hex4 s i)
        unfolding hex4 point_of
        hex4_fourth k = rw (on _ _ _ _ (hex_yes s i e h), on _ _ _ _ (hex_yes s _ e2 h2), on _ _ _ _ (hex_yes s _ e3 h3), then_bad _ _ _ _ (hex_no s _ e4 k))

        pub hex4_all : {a4 : ℕ} → q4 ≡ Some a4 → Some (a * 0x1000 + a2 * 0x100 + a3 * 0x10 + a4, i + 1 + 1 + 1 + 1) ≡ point_of (read_at hex4 s i)
        unfolding hex4 point_of
        hex4_all h4 = rw (on _ _ _ _ (hex_yes s i e h), on _ _ _ _ (hex_yes s _ e2 h2), on _ _ _ _ (hex_yes s _ e3 h3), on _ _ _ _ (hex_yes s _ e4 h4), give_at)

-- ---- a code point

module _ (s : Bytes) (i : ℕ) {q : Option (ℕ × ℕ)} (e : q ≡ point_of (read_at hex4 s i)) where
  pub code_bad : q ≡ None → None ≡ point_of (read_at code_point s i)
  unfolding code_point point_of
  code_bad h = rw (then_bad _ _ _ _ (point_missed _ e h))

  module _ {c j : ℕ} (h : q ≡ Some (c, j)) where
    pub code_low : c < 0xD800 → Some (c, j) ≡ point_of (read_at code_point s i)
    unfolding code_point point_of
    code_low k = rw (on _ _ _ _ (point_found _ e h), under 0xD800 0xDBFF c k, under 0xDC00 0xDFFF c (omega arith), give_at)

    pub code_high : 0xE000 ≤ c → Some (c, j) ≡ point_of (read_at code_point s i)
    unfolding code_point point_of
    code_high k = rw (on _ _ _ _ (point_found _ e h), above 0xD800 0xDBFF c (omega arith), above 0xDC00 0xDFFF c (omega arith), give_at)

    pub code_lone : 0xDC00 ≤ c → c < 0xE000 → None ≡ point_of (read_at code_point s i)
    unfolding code_point point_of
    code_lone k l = rw (on _ _ _ _ (point_found _ e h), above 0xD800 0xDBFF c k, inside 0xDC00 0xDFFF c k (omega arith), fail_at)

    module _ (k : 0xD800 ≤ c) (l : c < 0xDC00) {w : Option ℕ} (f : w ≡ place_of (read_at (word (92 ∷ 117 ∷ [])) s j)) where
      to_low : read_at code_point s i ≡ read_at (low_after c) s j
      unfolding code_point
      to_low = rw (on _ _ _ _ (point_found _ e h), inside 0xD800 0xDBFF c k (omega arith))

      pub pair_bare : w ≡ None → None ≡ point_of (read_at code_point s i)
      unfolding low_after point_of
      pair_bare m = rw (to_low, then_bad _ _ _ _ (missed _ f m))

      module _ {m : ℕ} {r : Option (ℕ × ℕ)} (n : w ≡ Some m) (t : r ≡ point_of (read_at hex4 s m)) where
        pub pair_bad : r ≡ None → None ≡ point_of (read_at code_point s i)
        unfolding low_after point_of
        pair_bad o = rw (to_low, on _ _ _ _ (found _ f n).1, then_bad _ _ _ _ (point_missed _ t o))

        module _ {low z : ℕ} (o : r ≡ Some (low, z)) where
          pub pair_under : low < 0xDC00 → None ≡ point_of (read_at code_point s i)
          unfolding low_after point_of
          pair_under x = rw (to_low, on _ _ _ _ (found _ f n).1, on _ _ _ _ (point_found _ t o), under 0xDC00 0xDFFF low x, fail_at)

          pub pair_above : 0xE000 ≤ low → None ≡ point_of (read_at code_point s i)
          unfolding low_after point_of
          pair_above x = rw (to_low, on _ _ _ _ (found _ f n).1, on _ _ _ _ (point_found _ t o), above 0xDC00 0xDFFF low x, fail_at)

          pub pair_is : 0xDC00 ≤ low → low < 0xE000 → Some (0x10000 + (c - 0xD800) * 0x400 + (low - 0xDC00), z) ≡ point_of (read_at code_point s i)
          unfolding low_after point_of
          pair_is x y = rw (to_low, on _ _ _ _ (found _ f n).1, on _ _ _ _ (point_found _ t o), inside 0xDC00 0xDFFF low x (omega arith), give_at)

-- ---- what follows a backslash

not_single : (b n : ℕ) → (b ≡ n → ⊥) → between n n b ≡ false
not_single b n h = go (leb b n) refl (leb n b) refl
  where
    go : (t : Bool) → leb b n ≡ t → (u : Bool) → leb n b ≡ u → u && t ≡ false
    go true e true f = absurd (h (omega (arith, leb-true b n e, leb-true n b f)))
    go true e false f = refl
    go false e true f = refl
    go false e false f = refl

module _ {s : Bytes} {i : ℕ} {q : Option ℕ} (p : Peeked s i q) where
  pub escape_none : q ≡ None → None ≡ point_of (read_at escaped s i)
  unfolding escaped point_of
  escape_none e = go (record { is = sym e ∙ p.is })
    where
      go : Peeked s i None → None ≡ point_of (read_at escaped s i)
      go n = unfold escaped point_of in rw (lead_no n _ _ 0x22 0x22 refl, lead_no n _ _ 0x5C 0x5C refl, lead_no n _ _ 0x2F 0x2F refl, lead_no n _ _ 0x62 0x62 refl, lead_no n _ _ 0x66 0x66 refl, lead_no n _ _ 0x6E 0x6E refl, lead_no n _ _ 0x72 0x72 refl, lead_no n _ _ 0x74 0x74 refl, lead_no n _ _ 0x75 0x75 refl, fail_at)

module _ {s : Bytes} {i : ℕ} {q : Option ℕ} {b : ℕ} (p : Peeked s i q) (e : q ≡ Some b) where
  g : Peeked s i (Some b)
  g = here p e

  pub escape_quote : b ≡ 34 → Some (34, i + 1) ≡ point_of (read_at escaped s i)
  unfolding read_at escaped lead◌to◌then◌else◌ ◌>>=◌ satisfy behind more give point_of
  escape_quote h = rw (← seen g, h)

  pub escape_backslash : b ≡ 92 → Some (92, i + 1) ≡ point_of (read_at escaped s i)
  unfolding read_at escaped lead◌to◌then◌else◌ ◌>>=◌ satisfy behind more give point_of
  escape_backslash h = rw (← seen g, h)

  pub escape_slash : b ≡ 47 → Some (47, i + 1) ≡ point_of (read_at escaped s i)
  unfolding read_at escaped lead◌to◌then◌else◌ ◌>>=◌ satisfy behind more give point_of
  escape_slash h = rw (← seen g, h)

  pub escape_b : b ≡ 98 → Some (8, i + 1) ≡ point_of (read_at escaped s i)
  unfolding read_at escaped lead◌to◌then◌else◌ ◌>>=◌ satisfy behind more give point_of
  escape_b h = rw (← seen g, h)

  pub escape_f : b ≡ 102 → Some (12, i + 1) ≡ point_of (read_at escaped s i)
  unfolding read_at escaped lead◌to◌then◌else◌ ◌>>=◌ satisfy behind more give point_of
  escape_f h = rw (← seen g, h)

  pub escape_n : b ≡ 110 → Some (10, i + 1) ≡ point_of (read_at escaped s i)
  unfolding read_at escaped lead◌to◌then◌else◌ ◌>>=◌ satisfy behind more give point_of
  escape_n h = rw (← seen g, h)

  pub escape_r : b ≡ 114 → Some (13, i + 1) ≡ point_of (read_at escaped s i)
  unfolding read_at escaped lead◌to◌then◌else◌ ◌>>=◌ satisfy behind more give point_of
  escape_r h = rw (← seen g, h)

  pub escape_t : b ≡ 116 → Some (9, i + 1) ≡ point_of (read_at escaped s i)
  unfolding read_at escaped lead◌to◌then◌else◌ ◌>>=◌ satisfy behind more give point_of
  escape_t h = rw (← seen g, h)

  pub escape_u : {q : Option (ℕ × ℕ)} → b ≡ 117 → q ≡ point_of (read_at code_point s (i + 1)) → q ≡ point_of (read_at escaped s i)
  unfolding escaped
  escape_u h r = rw (lead_no g _ _ 0x22 0x22 (not_single b 0x22 (λ z. omega arith)), lead_no g _ _ 0x5C 0x5C (not_single b 0x5C (λ z. omega arith)), lead_no g _ _ 0x2F 0x2F (not_single b 0x2F (λ z. omega arith)), lead_no g _ _ 0x62 0x62 (not_single b 0x62 (λ z. omega arith)), lead_no g _ _ 0x66 0x66 (not_single b 0x66 (λ z. omega arith)), lead_no g _ _ 0x6E 0x6E (not_single b 0x6E (λ z. omega arith)), lead_no g _ _ 0x72 0x72 (not_single b 0x72 (λ z. omega arith)), lead_no g _ _ 0x74 0x74 (not_single b 0x74 (λ z. omega arith)), lead_yes g _ _ 0x75 0x75 (inside 0x75 0x75 b (omega arith) (omega arith))) r

  pub escape_other : (b ≡ 34 → ⊥) → (b ≡ 92 → ⊥) → (b ≡ 47 → ⊥) → (b ≡ 98 → ⊥) → (b ≡ 102 → ⊥) → (b ≡ 110 → ⊥) → (b ≡ 114 → ⊥) → (b ≡ 116 → ⊥) → (b ≡ 117 → ⊥) → None ≡ point_of (read_at escaped s i)
  unfolding escaped point_of
  escape_other h34 h92 h47 h98 h102 h110 h114 h116 h117 = rw (lead_no g _ _ 0x22 0x22 (not_single b 0x22 h34), lead_no g _ _ 0x5C 0x5C (not_single b 0x5C h92), lead_no g _ _ 0x2F 0x2F (not_single b 0x2F h47), lead_no g _ _ 0x62 0x62 (not_single b 0x62 h98), lead_no g _ _ 0x66 0x66 (not_single b 0x66 h102), lead_no g _ _ 0x6E 0x6E (not_single b 0x6E h110), lead_no g _ _ 0x72 0x72 (not_single b 0x72 h114), lead_no g _ _ 0x74 0x74 (not_single b 0x74 h116), lead_no g _ _ 0x75 0x75 (not_single b 0x75 h117), fail_at)
