use Rattle.response_head.specs.ResponseHead.{is_blank, is_tchar}
use Rattle.response_head.proofs.FieldLaws.{field_laws, colon_laws}
use Rattle.response_head.proofs.read_field.Goals as goal

pub returns-then-colon-eq0 : goal.returns-then-colon-eq0
returns-then-colon-eq0 c = search (c.run_end-colon.ensures.is is_tchar (λ b q h e. e), field_laws)

pub returns-then-line-colon : goal.returns-then-line-colon
returns-then-line-colon c = search (c.run_end-colon.ensures.is is_tchar (λ b q h e. e), field_laws)

pub returns-then-line-colon-ne58 : goal.returns-then-line-colon-ne58
returns-then-line-colon-ne58 c = search (c.run_end-colon.ensures.is is_tchar (λ b q h e. e), colon_laws)

pub trim_end-to-requires : goal.trim_end-to-requires
trim_end-to-requires c = search (c.run_end-colon.ensures.is is_tchar (λ b q h e. e), c.run_end-from.ensures.is is_blank (λ b q h e. e), field_laws)

pub returns : goal.returns
returns c = search (c.run_end-colon.ensures.is is_tchar (λ b q h e. e), c.run_end-from.ensures.is is_blank (λ b q h e. e), field_laws)
