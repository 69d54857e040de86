use Rattle.entries.proofs.Laws.{laws}
use Rattle.entries.proofs.judge.Goals as goal

pub returns-then-entry-gt512 : goal.returns-then-entry-gt512
returns-then-entry-gt512 c = record { is = λ appid O. search laws }

pub returns-in_default : goal.returns-in_default
returns-in_default c = record { is = λ appid O. search laws }

pub is_other_label-requires : goal.is_other_label-requires
is_other_label-requires c = search laws

pub returns-then-is_other_label : goal.returns-then-is_other_label
returns-then-is_other_label c = record { is = λ appid O. search (c.is_other_label.ensures.is appid O, laws) }

pub returns-then-begins_https : goal.returns-then-begins_https
returns-then-begins_https c = record { is = λ appid O. search (c.is_other_label.ensures.is appid O, laws) }

pub returns-then-is_native : goal.returns-then-is_native
returns-then-is_native c = record { is = λ appid O. search laws }

pub returns-then-begins_native : goal.returns-then-begins_native
returns-then-begins_native c = record { is = λ appid O. search laws }

pub returns : goal.returns
returns c = record { is = λ appid O. search laws }
