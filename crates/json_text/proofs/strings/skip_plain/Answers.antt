use Rattle.json_text.specs.code.PlainString.{is_plain}
use Rattle.json_text.proofs.Scan.{run_read}
use Rattle.json_text.proofs.strings.skip_plain.Goals as goal

pub returns : goal.returns
returns c = run_read is_plain c.args.s.now c.args.from c.run_end.ensures (λ b q h e. e)
