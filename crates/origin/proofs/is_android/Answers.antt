use borrow.Author.Rules.{rules}
use Rattle.origin.specs.Origin.{is_key_hash_byte}
use Rattle.origin.proofs.Laws.{laws}
use Rattle.origin.proofs.is_android.Goals as goal

pub returns-then-s-ne48 : goal.returns-then-s-ne48
returns-then-s-ne48 c = search laws

pub returns-then-begins_with : goal.returns-then-begins_with
returns-then-begins_with c = search (c.run_end.ensures.is is_key_hash_byte (λ b q h e. search rules), laws)

pub returns-else-begins_with : goal.returns-else-begins_with
returns-else-begins_with c = search laws
