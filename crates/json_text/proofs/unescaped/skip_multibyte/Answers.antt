use native.Mathlib.Omega.{arith}
use Rattle.json_text.proofs.Plain.{wide_e1, wide_ee, wide_f1, wide_high}
use Rattle.json_text.proofs.Laws.{unescaped_laws}
use Rattle.json_text.proofs.unescaped.skip_multibyte.Goals as goal

pub returns-in-Some-eq224 : goal.returns-in-Some-eq224
returns-in-Some-eq224 c = search unescaped_laws

pub returns-in-Some-eq237 : goal.returns-in-Some-eq237
returns-in-Some-eq237 c = search unescaped_laws

pub returns-in-Some-eq240 : goal.returns-in-Some-eq240
returns-in-Some-eq240 c = search unescaped_laws

pub returns-in-Some-eq244 : goal.returns-in-Some-eq244
returns-in-Some-eq244 c = search unescaped_laws

pub returns-in-Some-194-to-223 : goal.returns-in-Some-194-to-223
returns-in-Some-194-to-223 c = search unescaped_laws

pub returns-in-Some-225-to-236 : goal.returns-in-Some-225-to-236
returns-in-Some-225-to-236 c = wide_e1 c.byte_at.ensures c.in-Some-225-to-236.is (omega arith) (omega arith) c.skip_with_tail-in-Some-225-to-236.ensures

pub returns-in-Some-238-to-239 : goal.returns-in-Some-238-to-239
returns-in-Some-238-to-239 c = wide_ee c.byte_at.ensures c.in-Some-238-to-239.is (omega arith) (omega arith) c.skip_with_tail-in-Some-238-to-239.ensures

pub returns-in-Some-241-to-243 : goal.returns-in-Some-241-to-243
returns-in-Some-241-to-243 c = wide_f1 c.byte_at.ensures c.in-Some-241-to-243.is (omega arith) (omega arith) c.skip_with_tails-in-Some-241-to-243.ensures

pub returns-in_default : goal.returns-in_default
returns-in_default c = search unescaped_laws

pub returns-in_default-2 : goal.returns-in_default-2
returns-in_default-2 c = wide_high c.byte_at.ensures c.in_default.is (grind arith)

pub returns-in_default-3 : goal.returns-in_default-3
returns-in_default-3 c = search unescaped_laws
