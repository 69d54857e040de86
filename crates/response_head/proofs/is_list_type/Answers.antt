use Rattle.response_head.specs.ResponseHead.{is_other}
use Rattle.response_head.proofs.FieldLaws.{field_laws, type_laws}
use Rattle.response_head.proofs.is_list_type.Goals as goal

pub slice_bounds-trim_end-end : goal.slice_bounds-trim_end-end
slice_bounds-trim_end-end c = search (c.run_end-end.ensures.is (is_other 59) (λ b q h e. e), field_laws)

pub returns : goal.returns
returns c = search (c.run_end-end.ensures.is (is_other 59) (λ b q h e. e), type_laws)
