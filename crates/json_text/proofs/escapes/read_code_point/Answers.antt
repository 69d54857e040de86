use native.Mathlib.Omega.{arith}
use Rattle.json_text.proofs.Steps.{took, left}
use Rattle.json_text.proofs.EscapeSteps.{pair_bare, pair_bad, pair_under, pair_above}
use Rattle.json_text.proofs.Laws.{escape_laws}
use Rattle.json_text.proofs.escapes.read_code_point.Goals as goal

pub returns-in_err-c : goal.returns-in_err-c
returns-in_err-c c = rw c.from_residual.ensures (search escape_laws)

pub returns-in_err-j-in-55296-to-56319 : goal.returns-in_err-j-in-55296-to-56319
returns-in_err-j-in-55296-to-56319 c = rw c.from_residual-in_err-j-in-55296-to-56319.ensures (pair_bare c.args.s.now c.args.from c.read_hex.ensures (took c.branch-c.ensures c.in_ok-c.is) (omega arith) (omega arith) c.skip_word.ensures (left c.branch-j.ensures c.in_err-j-in-55296-to-56319.is))

pub returns-in_err-low-in-55296-to-56319 : goal.returns-in_err-low-in-55296-to-56319
returns-in_err-low-in-55296-to-56319 c = rw c.from_residual-in_err-low-in-55296-to-56319.ensures (pair_bad c.args.s.now c.args.from c.read_hex.ensures (took c.branch-c.ensures c.in_ok-c.is) (omega arith) (omega arith) c.skip_word.ensures (took c.branch-j.ensures c.in_ok-j-in-55296-to-56319.is) c.read_hex-in-55296-to-56319.ensures (left c.branch-low.ensures c.in_err-low-in-55296-to-56319.is))

pub returns-in-56320-to-57343-low : goal.returns-in-56320-to-57343-low
returns-in-56320-to-57343-low c = search escape_laws

pub returns-in_default-low : goal.returns-in_default-low
returns-in_default-low c = pair_under c.args.s.now c.args.from c.read_hex.ensures (took c.branch-c.ensures c.in_ok-c.is) (omega arith) (omega arith) c.skip_word.ensures (took c.branch-j.ensures c.in_ok-j-in-55296-to-56319.is) c.read_hex-in-55296-to-56319.ensures (took c.branch-low.ensures c.in_ok-low-in-55296-to-56319.is) (omega arith)

pub returns-in_default-low-2 : goal.returns-in_default-low-2
returns-in_default-low-2 c = pair_above c.args.s.now c.args.from c.read_hex.ensures (took c.branch-c.ensures c.in_ok-c.is) (omega arith) (omega arith) c.skip_word.ensures (took c.branch-j.ensures c.in_ok-j-in-55296-to-56319.is) c.read_hex-in-55296-to-56319.ensures (took c.branch-low.ensures c.in_ok-low-in-55296-to-56319.is) (omega arith)

pub returns-in-56320-to-57343 : goal.returns-in-56320-to-57343
returns-in-56320-to-57343 c = search escape_laws

pub returns-in_default : goal.returns-in_default
returns-in_default c = search escape_laws

pub returns-in_default-2 : goal.returns-in_default-2
returns-in_default-2 c = search escape_laws
