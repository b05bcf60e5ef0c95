use Rattle.promises.proofs.Accepts.{accepts}
use Rattle.promises.proofs.Accepted.{accepted_so}
use Rattle.promises.proofs.soundness.checking_stands.Goals as goal

pub returns : goal.returns
returns c = λ d L. (accepts d L, accepted_so d L)
