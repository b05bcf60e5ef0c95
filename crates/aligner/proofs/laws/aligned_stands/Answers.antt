use Rattle.aligner.proofs.Starts.{aligning}
use Rattle.aligner.proofs.laws.aligned_stands.Goals as goal

pub returns : goal.returns
returns c = aligning
