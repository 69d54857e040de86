use mathlib.Core.Path.{refl, sym, ◌∙◌}
use Prim.Native.Nat.{◌+◌}
use Rattle.json_text.specs.Lexical.{is_blank}
use Rattle.json_text.proofs.Scan.{scan_end, scan_stop, scan_more, run_read}
use Rattle.json_text.proofs.skip_blanks.Goals as goal

pub returns-then-is_blank : goal.returns-then-is_blank
returns-then-is_blank c = sym (scan_more is_blank c.args.s.now c.args.from refl c.if-from-s.true c.is_blank.ensures c.if-is_blank.true) ∙ run_read is_blank c.args.s.now (c.args.from + 1) c.run_end.ensures (λ b q h e. e)

pub returns-else-is_blank : goal.returns-else-is_blank
returns-else-is_blank c = scan_stop is_blank c.args.s.now c.args.from refl c.if-from-s.true c.is_blank.ensures c.if-is_blank.false

pub returns-else-from-s : goal.returns-else-from-s
returns-else-from-s c = scan_end is_blank c.args.s.now c.args.from refl c.if-from-s.false
