use mathlib.Core.Path.{◌∙◌}
use Rattle.decision.proofs.Laws.{laws}
use Rattle.decision.proofs.ListLaws.{part_text}
use Rattle.decision.proofs.fetch_location.Goals as goal

pub returns-in-None : goal.returns-in-None
returns-in-None c = search laws

pub returns-in-Some-AppId : goal.returns-in-Some-AppId
returns-in-Some-AppId c = search laws

pub returns-in-Some-Text : goal.returns-in-Some-Text
returns-in-Some-Text c = c.of.ensures ∙ part_text c.locate.ensures c.in-Some-Text.is c.in-Some-Text.field-0-is
