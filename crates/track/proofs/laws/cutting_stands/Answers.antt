use Rattle.track.proofs.Cuts.{frames_cut}
use Rattle.track.proofs.laws.cutting_stands.Goals as goal

pub returns : goal.returns
returns c = frames_cut
