use Rattle.facets.proofs.Laws.{tallying}
use Rattle.facets.proofs.facets_tally.Goals as goal

pub returns-in-Err-clause-refusal : goal.returns-in-Err-clause-refusal
returns-in-Err-clause-refusal c = search tallying

pub returns-in-Err-clause-kept : goal.returns-in-Err-clause-kept
returns-in-Err-clause-kept c = search tallying

pub returns-in-Err-clause-too_long : goal.returns-in-Err-clause-too_long
returns-in-Err-clause-too_long c = search tallying

pub returns-in-Err-clause-other_scheme : goal.returns-in-Err-clause-other_scheme
returns-in-Err-clause-other_scheme c = search tallying

pub returns-in-Err-clause-not_facet : goal.returns-in-Err-clause-not_facet
returns-in-Err-clause-not_facet c = search tallying

pub returns-in-Err-clause-other_label : goal.returns-in-Err-clause-other_label
returns-in-Err-clause-other_label c = search tallying

pub returns-in-Ok-clause-refusal : goal.returns-in-Ok-clause-refusal
returns-in-Ok-clause-refusal c = search tallying

pub returns-in-Ok-clause-kept : goal.returns-in-Ok-clause-kept
returns-in-Ok-clause-kept c = search tallying

pub returns-in-Ok-clause-too_long : goal.returns-in-Ok-clause-too_long
returns-in-Ok-clause-too_long c = search tallying

pub returns-in-Ok-clause-other_scheme : goal.returns-in-Ok-clause-other_scheme
returns-in-Ok-clause-other_scheme c = search tallying

pub returns-in-Ok-clause-not_facet : goal.returns-in-Ok-clause-not_facet
returns-in-Ok-clause-not_facet c = search tallying

pub returns-in-Ok-clause-other_label : goal.returns-in-Ok-clause-other_label
returns-in-Ok-clause-other_label c = search tallying
