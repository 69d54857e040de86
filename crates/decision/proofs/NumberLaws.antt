-- The number of an answer. Assumes nothing.
use mathlib.Core.Path.{◌≡◌}
use Prim.Native.Nat.{ℕ, ◌+◌}
use borrow.Author.Rules.{rules}
use Rattle.refusals.specs.declared.Refusal.{Refusal}
use Rattle.refusals.specs.Number.{refusal_number}
use Rattle.decision.specs.Answer.{answer_number}
use Rattle.decision.specs.code.Meaning.{answer_of}
use Rattle.decision.specs.declared.Answer.{Answer}
use Rattle.decision.specs.declared.Answer.TheVariants.{Rule1, Rule2, Rule3, Rule4, Fetch, Refused}

module _ (a : Answer) where
  pub number_rule1 : a ≡ Rule1 → 1 ≡ answer_number (answer_of a)
  unfolding answer_of
  number_rule1 e = rw e

  pub number_rule2 : a ≡ Rule2 → 2 ≡ answer_number (answer_of a)
  unfolding answer_of
  number_rule2 e = rw e

  pub number_rule3 : a ≡ Rule3 → 3 ≡ answer_number (answer_of a)
  unfolding answer_of
  number_rule3 e = rw e

  pub number_rule4 : {n : ℕ} → a ≡ Rule4 n → 4 ≡ answer_number (answer_of a)
  unfolding answer_of
  number_rule4 e = rw e

  pub number_fetch : a ≡ Fetch → 5 ≡ answer_number (answer_of a)
  unfolding answer_of
  number_fetch e = rw e

  pub number_refused : {x : Refusal} {n : ℕ} → a ≡ Refused x → n ≡ refusal_number x → 100 + n ≡ answer_number (answer_of a)
  unfolding answer_of
  number_refused e f = rw (e, f)

pub ruleset numbers = (number_rule1, number_rule2, number_rule3, number_rule4, number_fetch, number_refused, rules)
