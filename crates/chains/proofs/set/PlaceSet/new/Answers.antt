use Rattle.chains.proofs.Sets.{holds_none}
use Rattle.chains.proofs.set.PlaceSet.new.Goals as goal

pub returns : goal.returns
returns c = holds_none
