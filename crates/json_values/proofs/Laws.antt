-- The sets of laws that answer needs, for `search number_laws` and so on.
pub use Rattle.json_text.proofs.Laws.{fits}
use Rattle.json_text.proofs.Steps.{wide_isnt, isnt_this}
use Rattle.json_values.proofs.Folding.{fold_empty, fold_starts}
use Rattle.json_values.proofs.Values.{value_true, value_false, value_null, value_string, value_gone, text_bad, text_end}
use Rattle.json_values.proofs.NameLaws.{name_bad, name_other, name_on, member_bad, member_on}

pub ruleset laws = (value_true, value_false, value_null, value_string, value_gone, member_bad, member_on, text_bad, text_end, fits)

pub ruleset listed_laws = (fold_empty, fold_starts, fits)

pub ruleset name_laws = (name_bad, name_other, name_on, wide_isnt, isnt_this, fits)
