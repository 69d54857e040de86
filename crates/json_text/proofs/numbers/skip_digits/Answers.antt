use Rattle.ascii.specs.Ascii.{is_digit}
use Rattle.json_text.proofs.Scan.{run_read}
use Rattle.json_text.proofs.numbers.skip_digits.Goals as goal

pub returns : goal.returns
returns c = run_read is_digit c.args.s.now c.args.from c.run_end.ensures (λ b q h e. e)
