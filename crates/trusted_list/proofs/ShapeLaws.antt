-- The shape of each value of the list, by what the pass holds.
use mathlib.Core.Path.{◌≡◌, refl, sym, ◌∙◌}
use Rattle.std.specs.Prelude.{Option, None, Some}
use Prim.Native.Nat.{ℕ, ◌-◌, ◌≤◌}
use native.Mathlib.Omega.{arith}
use lib.ListN.{length, take, drop}
use Rattle.ascii.specs.Ascii.{Bytes, same, text, number16}
use Rattle.json_text.specs.code.Places.{read_at, place_of}
use Rattle.json_text.proofs.Steps.{peeks, found, missed}
use Rattle.json_values.specs.Json.{Json, read_value}
use Rattle.json_values.specs.code.Folds.{reading, Relates}
use Rattle.json_values.proofs.Sizes.{value_spans}
use Rattle.json_values.proofs.Readings.{is_read, no_read}
use Rattle.trusted_list.specs.TrustedList.{read_number16}
use Rattle.trusted_list.specs.code.Slots.{Came, number_slot, NumberIs}
use Rattle.trusted_list.specs.declared.Slot.{Slot}
use Rattle.trusted_list.specs.declared.Slot.TheVariants.{Absent, Held, Spoiled}
use Rattle.trusted_list.proofs.FirstByte.{number_text}
use Rattle.trusted_list.proofs.MemberLaws.{Apart}

-- ---- a number

module _ (s : Bytes) (i d : ℕ) {q : Option ℕ} (e : q ≡ place_of (read_at (read_value d) s i)) where
  pub value_wrong : {P : Json → Slot → Type 0} → q ≡ None → Relates P (read_at (read_value d) s i) (reading None)
  value_wrong h = no_read (missed _ e h)

  module _ {j : ℕ} (h : q ≡ Some j) where
    pub value_start : i ≤ j
    value_start = let S = value_spans d s i (found _ e h).1 in omega (arith, S.ahead)

    pub value_end : j ≤ length s
    value_end = (value_spans d s i (found _ e h).1).inside

    number_is : number16 (take (j - i) (drop i s)) ≡ read_number16 (found (read_at (read_value d) s i) e h).0
    number_is = number_text (peeks s i) d (found _ e h).1

    module _ {r : Option ℕ} (g : r ≡ number16 (take (j - i) (drop i s))) where
      pub number_not : r ≡ None → Relates (Came NumberIs) (read_at (read_value d) s i) (reading (Some (j, Spoiled)))
      number_not m =
          let f = found (read_at (read_value d) s i) e h in
          is_read (record { value = f.0; read = f.1; is = record { is = record { is = unfold number_slot in (rw (sym number_is ∙ sym g ∙ m)) }; there = λ z. differs z } })
        where
          differs : Spoiled ≡ Absent → ⊥
          differs z = let w : ◌≡◌ {A = ℕ} 0 1 = cc in omega arith

      pub number_held : {n : ℕ} → r ≡ Some n → Relates (Came NumberIs) (read_at (read_value d) s i) (reading (Some (j, Held n)))
      number_held {n} m =
          let f = found (read_at (read_value d) s i) e h in
          is_read (record { value = f.0; read = f.1; is = record { is = record { is = unfold number_slot in (rw (sym number_is ∙ sym g ∙ m)) }; there = λ z. differs z } })
        where
          differs : Held n ≡ Absent → ⊥
          differs z = let w : ◌≡◌ {A = ℕ} 0 1 = cc in omega arith

-- ---- names of an object

pub major_minor : Apart (text "major") (text "minor")
unfolding same
major_minor = record { differ = refl; first_short = record { is = omega arith }; second_short = record { is = omega arith } }
