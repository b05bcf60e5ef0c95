use Rattle.track.specs.Shown.{turned_bits}
use Rattle.track.proofs.Packing.{Packing}
use Rattle.track.proofs.turned.Turned.pack.Given as goal

abbrev pub invariant-loop-k : goal.invariant-loop-k
invariant-loop-k l = Packing (turned_bits l.self) l.byte-items l.k
