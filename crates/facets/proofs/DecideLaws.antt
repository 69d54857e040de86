-- The exported decision: its number, its place, the label that rule 4 asks for, and demand 3. Assumes nothing.
use mathlib.Core.Path.{◌≡◌, refl, sym, ap, ◌∙◌}
use Rattle.std.specs.Prelude.{Some}
use Prim.Native.Nat.{ℕ}
use native.Mathlib.Omega.{arith}
use mir.Syntax.{w32}
use mir.Val.{Fits}
use Rattle.ascii.specs.Ascii.{Bytes}
use Rattle.origin.specs.Origin.{Authority, web_origin}
use Rattle.decision.specs.Answer.{Answer as Given, rule1, rule2, rule3, rule4, fetch, refused, answer_number}
use Rattle.decision.specs.Decide.{decide}
use Rattle.decision.specs.SameLabel.{SameLabel}
use Rattle.decision.specs.code.Meaning.{answer_of}
use Rattle.decision.specs.declared.Answer.{Answer}
use Rattle.decision.specs.declared.Answer.TheVariants.{Rule1, Rule2, Rule3, Rule4, Fetch, Refused}
use Rattle.decision.proofs.Padding.{padding_decision}
use Rattle.decision.proofs.PlaceSmall.{place_small}
use Rattle.decision.proofs.Rule4.{rule4_label}
use Rattle.facets.specs.Promises.{place_after, SameNumber, SamePlace, UnderLabel}
use Rattle.facets.specs.code.Places.{SmallPlace}

-- ---- the place

module _ (before : ℕ) (a : Answer) where
  pub after_rule4 : {n : ℕ} → a ≡ Rule4 n → n ≡ place_after before (answer_of a)
  unfolding answer_of
  after_rule4 e = rw e

  pub after_other : ((n : ℕ) → a ≡ Rule4 n → ⊥) → before ≡ place_after before (answer_of a)
  after_other h = go a h
    where
      go : (a : Answer) → ((n : ℕ) → a ≡ Rule4 n → ⊥) → before ≡ place_after before (answer_of a)
      go Rule1 h = unfold answer_of in refl
      go Rule2 h = unfold answer_of in refl
      go Rule3 h = unfold answer_of in refl
      go (Rule4 n) h = absurd (h n refl)
      go Fetch h = unfold answer_of in refl
      go (Refused x) h = unfold answer_of in refl

rule4_is : {a : Answer} {n : ℕ} → a ≡ Rule4 n → answer_of a ≡ rule4 n
unfolding answer_of
rule4_is e = rw e

pub place_fits : (a : Answer) {n : ℕ} → SmallPlace (answer_of a) → a ≡ Rule4 n → Fits w32 n
place_fits a {n} S e = record { fits = omega (arith, S.is n (rule4_is e)) }

-- ---- the exports

module _ (caller appid : Bytes) (major minor : ℕ) (items lent body table : Bytes) (a : Answer) (e : answer_of a ≡ decide caller appid major minor items lent body table) where
  pub decided_small : SmallPlace (answer_of a)
  decided_small = record { is = λ n h. place_small caller appid major minor items lent body table n (sym e ∙ h) }

  module _ {r : ℕ} (f : r ≡ answer_number (answer_of a)) where
    pub decided_number : r ≡ answer_number (decide caller appid major minor items lent body table)
    decided_number = f ∙ ap answer_number e

    four_label : (origin : Authority) → web_origin caller ≡ Some origin → (d : Given) → decide caller appid major minor items lent body table ≡ d → answer_number d ≡ 4
        → SameLabel table appid origin.host
    four_label origin web rule1 g h = absurd (omega (arith, h))
    four_label origin web rule2 g h = absurd (omega (arith, h))
    four_label origin web rule3 g h = absurd (omega (arith, h))
    four_label origin web (rule4 n) g h = rule4_label caller appid table origin web major minor items lent body n g
    four_label origin web fetch g h = absurd (omega (arith, h))
    four_label origin web (refused x) g h = absurd (omega (arith, h))

    pub under_label : UnderLabel r caller appid table
    under_label = record { is = λ origin web h. four_label origin web (decide caller appid major minor items lent body table) refl (sym decided_number ∙ h) }

    pub same_number : SameNumber r caller appid major minor items lent body table
    same_number = record { is = λ other S. decided_number ∙ ap answer_number (padding_decision appid table major minor body other S caller items lent) }

  module _ (before : ℕ) {after : ℕ} (f : after ≡ place_after before (answer_of a)) where
    pub decided_place : after ≡ place_after before (decide caller appid major minor items lent body table)
    decided_place = f ∙ ap (place_after before) e

    pub same_place : SamePlace before after caller appid major minor items lent body table
    same_place = record { is = λ other S. decided_place ∙ ap (place_after before) (padding_decision appid table major minor body other S caller items lent) }
