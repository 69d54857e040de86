-- What the pass holds of two values together: one law for each way through the code.
use Rattle.std.specs.Prelude.{Option, None, Some}
use mathlib.Core.Path.{◌≡◌, refl}
use Prim.Native.Nat.{ℕ}
use borrow.Author.Tests.{eq-eqb, ne_eqb}
use Rattle.trusted_list.specs.code.Slots.{fill, first_filled, second_filled, version_of, ids_of, listing_of, earlier}
use Rattle.trusted_list.specs.declared.Slot.{Slot}
use Rattle.trusted_list.specs.declared.Slot.TheVariants.{Absent, Held, Other, Spoiled}
use Rattle.trusted_list.specs.declared.Two.{Two}

-- ---- a value of one name more

module _ (x : Two) {w : Option (ℕ × Slot)} where
  module _ (e : w ≡ None) where
    pub first_none : None ≡ first_filled x w
    unfolding first_filled
    first_none = rw e

    pub second_none : None ≡ second_filled x w
    unfolding second_filled
    second_none = rw e

  module _ {j : ℕ} {y z : Slot} (e : w ≡ Some (j, y)) where
    pub first_some : z ≡ fill x.first y → Some (j, (record { first = z; second = x.second })) ≡ first_filled x w
    unfolding first_filled
    first_some f = rw (e, f)

    pub second_some : z ≡ fill x.second y → Some (j, (record { first = x.first; second = z })) ≡ second_filled x w
    unfolding second_filled
    second_some f = rw (e, f)

module _ (x y : Slot) where
  pub fill_absent : x ≡ Absent → y ≡ fill x y
  unfolding fill
  fill_absent e = rw e

  pub fill_not : (x ≡ Absent → ⊥) → Spoiled ≡ fill x y
  fill_not n = spoiled x n
    where
      spoiled : (x : Slot) → (x ≡ Absent → ⊥) → Spoiled ≡ fill x y
      spoiled Absent n = absurd (n refl)
      spoiled (Held p) n = unfold fill in refl
      spoiled Other n = unfold fill in refl
      spoiled Spoiled n = unfold fill in refl

  -- ---- `major` and `minor`

  module _ (major minor : ℕ) where
    module _ {a : ℕ} (e : x ≡ Held a) where
      module _ {b : ℕ} (f : y ≡ Held b) where
        pub other_major : (a ≡ major → ⊥) → Other ≡ version_of major minor x y
        unfolding version_of
        other_major n = rw (e, f, ne_eqb a major n)

        pub other_minor : a ≡ major → (b ≡ minor → ⊥) → Other ≡ version_of major minor x y
        unfolding version_of
        other_minor m n = rw (e, f, eq-eqb a major m, ne_eqb b minor n)

        pub wanted_version : a ≡ major → b ≡ minor → Held 0 ≡ version_of major minor x y
        unfolding version_of
        wanted_version m n = rw (e, f, eq-eqb a major m, eq-eqb b minor n)

      pub no_minor : ((b : ℕ) → y ≡ Held b → ⊥) → Spoiled ≡ version_of major minor x y
      no_minor n = rw e (spoiled y n)
        where
          spoiled : (y : Slot) → ((b : ℕ) → y ≡ Held b → ⊥) → Spoiled ≡ version_of major minor (Held a) y
          spoiled Absent n = unfold version_of in refl
          spoiled (Held b) n = absurd (n b refl)
          spoiled Other n = unfold version_of in refl
          spoiled Spoiled n = unfold version_of in refl

    pub no_major : ((a : ℕ) → x ≡ Held a → ⊥) → Spoiled ≡ version_of major minor x y
    no_major n = spoiled x n
      where
        spoiled : (x : Slot) → ((a : ℕ) → x ≡ Held a → ⊥) → Spoiled ≡ version_of major minor x y
        spoiled Absent n = unfold version_of in refl
        spoiled (Held a) n = absurd (n a refl)
        spoiled Other n = unfold version_of in refl
        spoiled Spoiled n = unfold version_of in refl

  -- ---- the items of `ids`

  module _ (p : ℕ) where
    pub items_other : x ≡ Other → Held p ≡ ids_of p x
    unfolding ids_of
    items_other e = rw e

    pub items_not : (x ≡ Other → ⊥) → Spoiled ≡ ids_of p x
    items_not n = none x n
      where
        none : (x : Slot) → (x ≡ Other → ⊥) → Spoiled ≡ ids_of p x
        none Other n = absurd (n refl)
        none Absent n = unfold ids_of in refl
        none (Held q) n = unfold ids_of in refl
        none Spoiled n = unfold ids_of in refl

  -- ---- `version` and `ids`

  module _ {p : ℕ} (f : y ≡ Held p) where
    pub listing_wanted : {n : ℕ} → x ≡ Held n → Held p ≡ listing_of x y
    unfolding listing_of
    listing_wanted e = rw (e, f)

    pub listing_other : x ≡ Other → Other ≡ listing_of x y
    unfolding listing_of
    listing_other e = rw (e, f)

    pub no_version : ((n : ℕ) → x ≡ Held n → ⊥) → (x ≡ Other → ⊥) → Spoiled ≡ listing_of x y
    no_version n o = rw f (spoiled x n o)
      where
        spoiled : (x : Slot) → ((n : ℕ) → x ≡ Held n → ⊥) → (x ≡ Other → ⊥) → Spoiled ≡ listing_of x (Held p)
        spoiled Absent n o = unfold listing_of in refl
        spoiled (Held m) n o = absurd (n m refl)
        spoiled Other n o = absurd (o refl)
        spoiled Spoiled n o = unfold listing_of in refl

  pub no_ids_held : ((p : ℕ) → y ≡ Held p → ⊥) → Spoiled ≡ listing_of x y
  no_ids_held n = spoiled x y n
    where
      spoiled : (x y : Slot) → ((p : ℕ) → y ≡ Held p → ⊥) → Spoiled ≡ listing_of x y
      spoiled x (Held p) n = absurd (n p refl)
      spoiled Absent y n = unfold listing_of in refl
      spoiled Spoiled y n = unfold listing_of in refl
      spoiled (Held m) Absent n = unfold listing_of in refl
      spoiled (Held m) Other n = unfold listing_of in refl
      spoiled (Held m) Spoiled n = unfold listing_of in refl
      spoiled Other Absent n = unfold listing_of in refl
      spoiled Other Other n = unfold listing_of in refl
      spoiled Other Spoiled n = unfold listing_of in refl

  -- ---- the objects so far, and one more

  pub earlier_other : x ≡ Other → y ≡ earlier x y
  unfolding earlier
  earlier_other e = rw e

  module _ {p : ℕ} (e : x ≡ Held p) where
    pub earlier_held : {q : ℕ} → y ≡ Held q → Held p ≡ earlier x y
    unfolding earlier
    earlier_held f = rw (e, f)

    pub earlier_kept : y ≡ Other → Held p ≡ earlier x y
    unfolding earlier
    earlier_kept f = rw (e, f)

    pub earlier_not : ((q : ℕ) → y ≡ Held q → ⊥) → (y ≡ Other → ⊥) → Spoiled ≡ earlier x y
    earlier_not n o = rw e (spoiled y n o)
      where
        spoiled : (y : Slot) → ((q : ℕ) → y ≡ Held q → ⊥) → (y ≡ Other → ⊥) → Spoiled ≡ earlier (Held p) y
        spoiled Absent n o = unfold earlier in refl
        spoiled (Held q) n o = absurd (n q refl)
        spoiled Other n o = absurd (o refl)
        spoiled Spoiled n o = unfold earlier in refl

  pub earlier_none : (x ≡ Other → ⊥) → ((p : ℕ) → x ≡ Held p → ⊥) → Spoiled ≡ earlier x y
  earlier_none o n = spoiled x o n
    where
      spoiled : (x : Slot) → (x ≡ Other → ⊥) → ((p : ℕ) → x ≡ Held p → ⊥) → Spoiled ≡ earlier x y
      spoiled Absent o n = unfold earlier in refl
      spoiled (Held p) o n = absurd (n p refl)
      spoiled Other o n = absurd (o refl)
      spoiled Spoiled o n = unfold earlier in refl

pub ruleset slot_laws = (first_none, second_none, first_some, second_some, fill_absent, fill_not, other_major, other_minor, wanted_version, no_minor, no_major, items_other, items_not, listing_wanted, listing_other, no_version, no_ids_held, earlier_other, earlier_held, earlier_kept, earlier_not, earlier_none)
