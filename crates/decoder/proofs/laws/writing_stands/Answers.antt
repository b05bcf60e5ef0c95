use Rattle.decoder.proofs.Writes.{writing}
use Rattle.decoder.proofs.laws.writing_stands.Goals as goal

pub returns : goal.returns
returns c = writing
