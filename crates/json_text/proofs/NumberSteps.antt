-- The ways through a number.
use Rattle.std.specs.Prelude.{Option, Some, None, unwrap_or}
use mathlib.Core.Path.{◌≡◌, refl, sym, ◌∙◌}
use mathlib.Core.Bool.{Bool, true, false}
use mathlib.Core.List.{[], ◌∷◌}
use Prim.Native.Nat.{ℕ, ◌+◌, ◌≤◌, ◌<◌}
use native.Mathlib.Omega.{arith}
use types.Run.{OneOf}
use lib.Dec.{eqb}
use Rattle.std.specs.Option.{option_eq}
use Rattle.ascii.specs.Ascii.{Bytes, is_digit, text}
use Rattle.json_text.specs.Reader.{Read, Reader, got, many, one_of, optional}
use Rattle.json_text.specs.Lexical.{digits, int, frac, exp, read_number}
use Rattle.json_text.specs.code.Places.{Peeked, read_at, place_of}
use Rattle.json_text.proofs.Steps.{here, is_this, not_this, on, then_bad, one_yes, one_no, or_first, or_second, give_at, found, missed, inside, under, above, is_one, not_one, one_of_lem, none_of}

-- [ p ], by the place behind p
optional_at : (p : Reader (Unit {0})) (s : Bytes) (i : ℕ) {r : Read (Unit {0})} {d : Option ℕ} → read_at p s i ≡ r → d ≡ place_of r → read_at (optional p) s i ≡ got tt (unwrap_or d i)
optional_at p s i {r} {d} e h = go d refl
  where
    go : (x : Option ℕ) → d ≡ x → read_at (optional p) s i ≡ got tt (unwrap_or x i)
    go None k = rw (or_second _ _ _ _ (e ∙ missed _ h k)) (give_at tt s i)
    go (Some j) k = or_first _ _ _ _ (e ∙ (found _ h k).1)

digit : (b : ℕ) → 48 ≤ b → b ≤ 57 → is_digit b ≡ true
unfolding is_digit
digit b h k = inside 48 57 b h k

low_digit : (b : ℕ) → b < 48 → is_digit b ≡ false
unfolding is_digit
low_digit b h = under 48 57 b h

high_digit : (b : ℕ) → 57 < b → is_digit b ≡ false
unfolding is_digit
high_digit b h = above 48 57 b h

module _ {s : Bytes} {i : ℕ} {q : Option ℕ} (p : Peeked s i q) where
  module _ (e : q ≡ None) where
    n : Peeked s i None
    n = record { is = sym e ∙ p.is }

    pub digits_gone : None ≡ place_of (read_at digits s i)
    unfolding digits place_of is_digit
    digits_gone = rw (then_bad _ _ _ _ (one_no n _ refl))

    pub int_gone : None ≡ place_of (read_at int s i)
    unfolding int place_of
    int_gone = rw (or_second _ _ _ _ (one_no n _ refl), then_bad _ _ _ _ (one_no n _ refl))

    pub sign_gone : read_at (optional (one_of (text "+-"))) s i ≡ got tt i
    sign_gone = rw (or_second _ _ _ _ (one_no n _ refl)) (give_at tt s i)

    pub exp_gone : read_at (optional exp) s i ≡ got tt i
    unfolding exp
    exp_gone = rw (or_second _ _ _ _ (then_bad _ _ _ _ (one_no n _ refl))) (give_at tt s i)

  module _ {b : ℕ} (e : q ≡ Some b) where
    g : Peeked s i (Some b)
    g = here p e

    pub digits_low : b < 48 → None ≡ place_of (read_at digits s i)
    unfolding digits place_of
    digits_low h = rw (then_bad _ _ _ _ (one_no g _ (low_digit b h)))

    pub digits_high : 57 < b → None ≡ place_of (read_at digits s i)
    unfolding digits place_of
    digits_high h = rw (then_bad _ _ _ _ (one_no g _ (high_digit b h)))

    pub digits_some : {j : ℕ} → 48 ≤ b → b < 58 → read_at (many is_digit) s (i + 1) ≡ got tt j → Some j ≡ place_of (read_at digits s i)
    unfolding digits place_of
    digits_some h k e = rw (on _ _ _ _ (one_yes g _ (digit b h (omega arith))), e)

    pub int_zero : b ≡ 48 → Some (i + 1) ≡ place_of (read_at int s i)
    unfolding int place_of
    int_zero h = rw (or_first _ _ _ _ (one_yes g _ (is_one b 48 h)))

    pub int_low : b < 48 → None ≡ place_of (read_at int s i)
    unfolding int place_of
    int_low h = rw (or_second _ _ _ _ (one_no g _ (not_one b 48 (λ z. omega arith))), then_bad _ _ _ _ (one_no g _ (under 49 57 b (omega arith))))

    pub int_high : 57 < b → None ≡ place_of (read_at int s i)
    unfolding int place_of
    int_high h = rw (or_second _ _ _ _ (one_no g _ (not_one b 48 (λ z. omega arith))), then_bad _ _ _ _ (one_no g _ (above 49 57 b h)))

    pub int_some : {j : ℕ} → 49 ≤ b → b < 58 → read_at (many is_digit) s (i + 1) ≡ got tt j → Some j ≡ place_of (read_at int s i)
    unfolding int place_of
    int_some h k e = rw (or_second _ _ _ _ (one_no g _ (not_one b 48 (λ z. omega arith))), on _ _ _ _ (one_yes g _ (inside 49 57 b h (omega arith))), e)

    pub sign_some : OneOf (43 ∷ 45 ∷ []) b → read_at (optional (one_of (text "+-"))) s i ≡ got tt (i + 1)
    sign_some h = or_first _ _ _ _ (one_yes g _ (one_of_lem (43 ∷ 45 ∷ []) b h))

    pub sign_none : (OneOf (43 ∷ 45 ∷ []) b → ⊥) → read_at (optional (one_of (text "+-"))) s i ≡ got tt i
    sign_none h = rw (or_second _ _ _ _ (one_no g _ (none_of (43 ∷ 45 ∷ []) b h))) (give_at tt s i)

    pub exp_none : (OneOf (69 ∷ 101 ∷ []) b → ⊥) → read_at (optional exp) s i ≡ got tt i
    unfolding exp
    exp_none h = rw (or_second _ _ _ _ (then_bad _ _ _ _ (one_no g _ (none_of (69 ∷ 101 ∷ []) b h)))) (give_at tt s i)

    pub exp_some : {j n : ℕ} {d : Option ℕ} → OneOf (69 ∷ 101 ∷ []) b → read_at (optional (one_of (text "+-"))) s (i + 1) ≡ got tt j → d ≡ place_of (read_at digits s j)
        → n ≡ unwrap_or d i → read_at (optional exp) s i ≡ got tt n
    exp_some {j} h f e k = rw k (optional_at exp s i (exp_digits h f) e)
      where
        exp_digits : OneOf (69 ∷ 101 ∷ []) b → read_at (optional (one_of (text "+-"))) s (i + 1) ≡ got tt j → read_at exp s i ≡ read_at digits s j
        exp_digits h f = unfold exp in (on _ _ _ _ (one_yes g _ (one_of_lem (69 ∷ 101 ∷ []) b h)) ∙ on _ _ _ _ f)

  -- a dot or a minus, compared
  module _ {w : Bool} where
    pub frac_none : w ≡ option_eq eqb q (Some 46) → w ≡ false → read_at (optional frac) s i ≡ got tt i
    unfolding frac
    frac_none e h = rw (or_second _ _ _ _ (then_bad _ _ _ _ (one_no p _ (not_this q 46 (omega arith) e h)))) (give_at tt s i)

    pub frac_some : {n : ℕ} {d : Option ℕ} → w ≡ option_eq eqb q (Some 46) → w ≡ true → d ≡ place_of (read_at digits s (i + 1)) → n ≡ unwrap_or d i → read_at (optional frac) s i ≡ got tt n
    frac_some e h f k = rw k (optional_at frac s i (frac_digits e h) f)
      where
        frac_digits : w ≡ option_eq eqb q (Some 46) → w ≡ true → read_at frac s i ≡ read_at digits s (i + 1)
        frac_digits e h = unfold frac in (on _ _ _ _ (one_yes p _ (is_this q 46 e h)))

    pub minus_some : w ≡ option_eq eqb q (Some 45) → w ≡ true → read_at (optional (one_of (text "-"))) s i ≡ got tt (i + 1)
    minus_some e h = or_first _ _ _ _ (one_yes p _ (is_this q 45 e h))

    pub minus_none : w ≡ option_eq eqb q (Some 45) → w ≡ false → read_at (optional (one_of (text "-"))) s i ≡ got tt i
    minus_none e h = rw (or_second _ _ _ _ (one_no p _ (not_this q 45 (omega arith) e h))) (give_at tt s i)

module _ (s : Bytes) (i : ℕ) {j : ℕ} {q : Option ℕ} (m : read_at (optional (one_of (text "-"))) s i ≡ got tt j) (e : q ≡ place_of (read_at int s j)) where
  pub number_bad : q ≡ None → None ≡ place_of (read_at read_number s i)
  unfolding read_number place_of
  number_bad h = rw (on _ _ _ _ m, then_bad _ _ _ _ (missed _ e h))

  pub number_some : {k l n : ℕ} → q ≡ Some k → read_at (optional frac) s k ≡ got tt l → read_at (optional exp) s l ≡ got tt n → Some n ≡ place_of (read_at read_number s i)
  unfolding read_number place_of
  number_some h f x = rw (on _ _ _ _ m, on _ _ _ _ (found _ e h).1, on _ _ _ _ f, x)

-- past the end there is no number
pub number_gone : {s : Bytes} {i : ℕ} → Peeked s i None → None ≡ place_of (read_at read_number s i)
unfolding read_number place_of
number_gone {s} {i} g = rw (on _ _ _ _ (sign_gone_minus g), then_bad _ _ _ _ (missed (read_at int s i) (int_gone g refl) refl))
  where
    sign_gone_minus : Peeked s i None → read_at (optional (one_of (text "-"))) s i ≡ got tt i
    sign_gone_minus g = rw (or_second _ _ _ _ (one_no g _ refl)) (give_at tt s i)
