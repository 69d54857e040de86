use Rattle.trusted_list.proofs.Laws.{members}
use Rattle.trusted_list.proofs.VersionMembersLevel.item.Goals as goal

pub returns-in_err-k : goal.returns-in_err-k
returns-in_err-k c = rw c.from_residual.ensures (search members)

pub returns-then-is_name : goal.returns-then-is_name
returns-then-is_name c = search members

pub returns-then-is_name-2 : goal.returns-then-is_name-2
returns-then-is_name-2 c = search members

pub returns-in_err-j : goal.returns-in_err-j
returns-in_err-j c = rw c.from_residual-in_err-j.ensures (search members)

pub returns : goal.returns
returns c = search members
