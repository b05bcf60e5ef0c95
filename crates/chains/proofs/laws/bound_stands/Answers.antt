use Rattle.chains.proofs.Bounds.{bound_enough}
use Rattle.chains.proofs.laws.bound_stands.Goals as goal

pub returns : goal.returns
returns c = bound_enough
