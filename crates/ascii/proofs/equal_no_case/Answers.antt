use Rattle.ascii.proofs.Library.{no_case_told}
use Rattle.ascii.proofs.equal_no_case.Goals as goal

pub returns : goal.returns
returns c = no_case_told c.args.s.now c.args.t.now c.eq_ignore_ascii_case.ensures.test
