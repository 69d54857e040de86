use borrow.Author.Rules.{rules}
use Rattle.ascii.proofs.NumberLaws.{number_laws, number_far, number_over, number_more}
use Rattle.ascii.proofs.decimals.read_number.Goals as goal

pub returns-then-is_empty : goal.returns-then-is_empty
returns-then-is_empty c = search number_laws

pub loop-b-init : goal.loop-b-init
loop-b-init c = search number_laws

pub returns-then-not-is_digit : goal.returns-then-not-is_digit
returns-then-not-is_digit c = search number_laws

pub returns-in_err-checked_mul : goal.returns-in_err-checked_mul
returns-in_err-checked_mul c = number_far c.loop-b.invariant (search rules) c.is_digit.ensures (search rules) c.checked_mul.ensures (search rules) (search rules)

pub loop-b-preserved : goal.loop-b-preserved
loop-b-preserved c = number_more c.loop-b.invariant (search rules) c.is_digit.ensures (search rules) c.digit_value.ensures c.checked_mul.ensures (search rules) c.checked_add.ensures (search rules)

pub returns-in_err-n : goal.returns-in_err-n
returns-in_err-n c = number_over c.loop-b.invariant (search rules) c.is_digit.ensures (search rules) c.digit_value.ensures c.checked_mul.ensures (search rules) c.checked_add.ensures (search rules) (search rules)

pub returns : goal.returns
returns c = search number_laws
