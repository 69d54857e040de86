use Rattle.trusted_list.proofs.LevelLaws.{listing_closes}
use Rattle.trusted_list.proofs.ListingMembersLevel.slot.Goals as goal

pub returns : goal.returns
returns c = listing_closes c.listing_slot.ensures
