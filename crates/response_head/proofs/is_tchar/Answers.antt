use Rattle.response_head.proofs.ByteLaws.{byte_laws}
use Rattle.response_head.proofs.is_tchar.Goals as goal

pub returns-then-is_ascii_alphanumeric : goal.returns-then-is_ascii_alphanumeric
returns-then-is_ascii_alphanumeric c = search byte_laws

pub returns-else-is_ascii_alphanumeric : goal.returns-else-is_ascii_alphanumeric
returns-else-is_ascii_alphanumeric c = search byte_laws
