use Rattle.files.proofs.Paths.{path_only}
use Rattle.files.proofs.laws.path_stands.Goals as goal

pub returns : goal.returns
returns c = path_only
