-- What a text reads to, by what the code holds of it.
use Rattle.std.specs.Prelude.{Option, Some, None}
use mathlib.Core.Path.{◌≡◌, refl, ap}
use Prim.Native.Nat.{ℕ}
use native.Mathlib.Omega.{arith}
use Rattle.json_text.specs.Reader.{Read, got, bad}
use Rattle.json_values.specs.code.Folds.{Relates, unread, related, reading}

pub record Has {A B : Type 0} (R : A → B → Type 0) (r : Read A) (b : B) (j : ℕ) : Type 0 where
  pub value : A
  pub read : r ≡ got value j
  pub is : R value b

has : {A B : Type 0} {R : A → B → Type 0} {r : Read A} {t : Read B} {b : B} {j : ℕ} → Relates R r t → t ≡ got b j → Has R r b j
has unread e = let z : ◌≡◌ {A = ℕ} 0 1 = cc in absurd (omega arith)
has {R} {b} {j} (related {a} {b = c} {j = i} h) e =
    let x : c ≡ b = cc in
    let y : i ≡ j = cc in
    record { value = a; read = ap (got a) y; is = rw (← x) h }

has_not : {A B : Type 0} {R : A → B → Type 0} {r : Read A} {t : Read B} → Relates R r t → t ≡ bad → r ≡ bad
has_not unread e = refl
has_not (related h) e = let z : ◌≡◌ {A = ℕ} 0 1 = cc in absurd (omega arith)

module _ {A B : Type 0} {R : A → B → Type 0} {r : Read A} {q : Option (ℕ × B)} (E : Relates R r (reading q)) where
  pub was_read : {j : ℕ} {x : B} → q ≡ Some (j, x) → Has R r x j
  unfolding reading
  was_read h = has E (rw h)

  pub not_read : q ≡ None → r ≡ bad
  unfolding reading
  not_read h = has_not E (rw h)

-- the other way
module _ {A B : Type 0} {R : A → B → Type 0} {r : Read A} where
  pub is_read : {x : B} {j : ℕ} → Has R r x j → Relates R r (reading (Some (j, x)))
  unfolding reading
  is_read H = rw H.read (related H.is)

  pub no_read : r ≡ bad → Relates R r (reading None)
  unfolding reading
  no_read e = rw e unread
