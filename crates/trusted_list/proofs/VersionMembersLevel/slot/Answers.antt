use Rattle.trusted_list.proofs.LevelLaws.{version_closes}
use Rattle.trusted_list.proofs.VersionMembersLevel.slot.Goals as goal

pub returns : goal.returns
returns c = version_closes _ _ c.version_slot.ensures
