use Rattle.entries.proofs.Laws.{others}
use Rattle.entries.proofs.is_other_label.Goals as goal

pub returns-in_default : goal.returns-in_default
returns-in_default c = record { is = λ appid O h. search others }

pub returns-in-Some-deeper : goal.returns-in-Some-deeper
returns-in-Some-deeper c = record { is = λ appid O h. search others }

pub returns-in-None : goal.returns-in-None
returns-in-None c = record { is = λ appid O h. search others }
