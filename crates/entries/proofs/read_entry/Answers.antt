use Rattle.entries.proofs.Laws.{read_last, read_long, read_stuck}
use Rattle.entries.proofs.read_entry.Goals as goal

pub returns-in_default : goal.returns-in_default
returns-in_default c = record { is = λ appid O. search read_stuck }

pub returns-in_default-held : goal.returns-in_default-held
returns-in_default-held c = record { is = λ appid O. search read_long }

pub returns : goal.returns
returns c = record { is = λ appid O. search (c.judge-cause.ensures.is appid O, read_last) }
