use Rattle.json_text.specs.code.PlainString.{is_ascii_char}
use Rattle.json_text.proofs.Scan.{run_read}
use Rattle.json_text.proofs.strings.skip_ascii.Goals as goal

pub returns : goal.returns
returns c = run_read is_ascii_char c.args.s.now c.args.from c.run_end.ensures (λ b q h e. e)
