-- What the decision answers, and document 01's number of each answer.
use Rattle.std.specs.Prelude.{ℕ, ◌+◌}
use Rattle.refusals.specs.declared.Refusal.{Refusal}
use Rattle.refusals.specs.Number.{refusal_number}

-- rule 4 with the place of the kept entry
pub data Answer : Type 0 where
  rule1 rule2 rule3 fetch : Answer
  rule4 : ℕ → Answer
  refused : Refusal → Answer

-- 1 to 4 a rule, 5 fetch, 100 + refusal
abbrev pub answer_number : Answer → ℕ
answer_number rule1 = 1
answer_number rule2 = 2
answer_number rule3 = 3
answer_number (rule4 n) = 4
answer_number fetch = 5
answer_number (refused r) = 100 + refusal_number r
