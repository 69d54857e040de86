use Rattle.trusted_list.proofs.LevelLaws.{body_closes}
use Rattle.trusted_list.proofs.BodyMembersLevel.slot.Goals as goal

pub returns : goal.returns
returns c = body_closes c.args.two
