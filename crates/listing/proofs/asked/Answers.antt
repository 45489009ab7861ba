use Rattle.listing.specs.Listing.{asked_of}
use Rattle.listing.proofs.asked.Goals as goal

pub returns : goal.returns
unfolding asked_of
returns c = c.max_height.ensures.marks_after
