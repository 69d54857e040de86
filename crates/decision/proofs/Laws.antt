-- The sets of laws that answer needs.
use borrow.Author.Rules.{rules}
use Rattle.decision.proofs.StageLaws.{stage_laws}
use Rattle.decision.proofs.SeekLaws.{seek_starts, seek_over, seek_less, seek_skip, seek_keep}
use Rattle.decision.proofs.ListLaws.{late_status, late_type, late_refused, late_match, decide_settled, decide_listed, decide_refused, target_app, target_text, locate_due, locate_fetch, locate_other, part_none, part_app, part_text}

pub ruleset stages = (stage_laws, rules)

pub ruleset seeking = (seek_starts, seek_over, seek_less, seek_skip, seek_keep, rules)

pub ruleset laws = (late_status, late_type, late_refused, late_match, decide_settled, decide_listed, decide_refused, target_app, target_text, locate_due, locate_fetch, locate_other, part_none, part_app, part_text, rules)
