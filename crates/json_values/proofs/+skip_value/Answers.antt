use native.Mathlib.Omega.{arith}
use Rattle.json_text.proofs.Steps.{took, left}
use Rattle.json_values.specs.Json.{read_member, read_value}
use Rattle.json_values.specs.declared.Kind.TheVariants.{Array, Object}
use Rattle.json_values.proofs.Folding.{goes_on}
use Rattle.json_values.proofs.Values.{value_array, value_object, value_deep_array, value_deep_object, value_number}
use Rattle.json_values.proofs.Laws.{fits, laws}
use Rattle.json_values.proofs.+skip_value.Goals as goal

pub skip_member-returns-in_err-k : goal.skip_member-returns-in_err-k
skip_member-returns-in_err-k t c = rw c.from_residual.ensures (search laws)

pub skip_member-returns : goal.skip_member-returns
skip_member-returns t c = search laws

pub skip_value-returns-in_err-b : goal.skip_value-returns-in_err-b
skip_value-returns-in_err-b t c = rw c.from_residual.ensures (search laws)

pub skip_value-returns-in_err-inner-in-91 : goal.skip_value-returns-in_err-inner-in-91
skip_value-returns-in_err-inner-in-91 t c = rw c.from_residual-in_err-inner-in-91.ensures (value_deep_array c.args.left c.byte_at.ensures (took c.branch-b.ensures c.in_ok-b.is) c.in-91.is c.checked_sub.ensures (left c.branch-inner.ensures c.in_err-inner-in-91.is))

pub skip_value-overflow_add-from : goal.skip_value-overflow_add-from
skip_value-overflow_add-from t c = search fits

pub skip_value-skip_listed-requires-clause-ahead : goal.skip_value-skip_listed-requires-clause-ahead
skip_value-skip_listed-requires-clause-ahead t c = goes_on (read_value c.in_ok-inner-in-91.inner) c.args.s.now (record { is = λ i x q p. p })

pub skip_value-returns-in_err-inner-in-123 : goal.skip_value-returns-in_err-inner-in-123
skip_value-returns-in_err-inner-in-123 t c = rw c.from_residual-in_err-inner-in-123.ensures (value_deep_object c.args.left c.byte_at.ensures (took c.branch-b.ensures c.in_ok-b.is) c.in-123.is c.checked_sub-in-123.ensures (left c.branch-inner-in-123.ensures c.in_err-inner-in-123.is))

pub skip_value-overflow_add-from-in-123 : goal.skip_value-overflow_add-from-in-123
skip_value-overflow_add-from-in-123 t c = search fits

pub skip_value-skip_listed-requires-in-123-clause-ahead : goal.skip_value-skip_listed-requires-in-123-clause-ahead
skip_value-skip_listed-requires-in-123-clause-ahead t c = goes_on (read_member (read_value c.in_ok-inner-in-123.inner)) c.args.s.now (record { is = λ i x q p. p })

pub skip_value-returns-in-34 : goal.skip_value-returns-in-34
skip_value-returns-in-34 t c = search laws

pub skip_value-returns-in_ok-inner-in-91 : goal.skip_value-returns-in_ok-inner-in-91
skip_value-returns-in_ok-inner-in-91 t c = value_array c.args.left c.byte_at.ensures (took c.branch-b.ensures c.in_ok-b.is) c.in-91.is c.checked_sub.ensures (took c.branch-inner.ensures c.in_ok-inner-in-91.is) (c.skip_listed.ensures.is Array (read_value c.in_ok-inner-in-91.inner) (record { is = λ i x q p. p }))

pub skip_value-returns-in_ok-inner-in-123 : goal.skip_value-returns-in_ok-inner-in-123
skip_value-returns-in_ok-inner-in-123 t c = value_object c.args.left c.byte_at.ensures (took c.branch-b.ensures c.in_ok-b.is) c.in-123.is c.checked_sub-in-123.ensures (took c.branch-inner-in-123.ensures c.in_ok-inner-in-123.is) (c.skip_listed-in-123.ensures.is Object (read_member (read_value c.in_ok-inner-in-123.inner)) (record { is = λ i x q p. p }))

pub skip_value-returns-in-102 : goal.skip_value-returns-in-102
skip_value-returns-in-102 t c = search laws

pub skip_value-returns-in-110 : goal.skip_value-returns-in-110
skip_value-returns-in-110 t c = search laws

pub skip_value-returns-in-116 : goal.skip_value-returns-in-116
skip_value-returns-in-116 t c = search laws

pub skip_value-returns-in_default : goal.skip_value-returns-in_default
skip_value-returns-in_default t c = value_number c.args.left c.byte_at.ensures (took c.branch-b.ensures c.in_ok-b.is) (λ z. grind arith) (λ z. grind arith) (λ z. grind arith) (λ z. grind arith) (λ z. grind arith) (λ z. grind arith) c.skip_number.ensures
