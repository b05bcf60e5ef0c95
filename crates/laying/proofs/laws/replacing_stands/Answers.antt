use Rattle.laying.proofs.Replaces.{replacing}
use Rattle.laying.proofs.laws.replacing_stands.Goals as goal

pub returns : goal.returns
returns c = replacing
