use Rattle.track.specs.Shown.{circle_bits}
use Rattle.track.proofs.Finds.{Ahead, left}
use Rattle.track.proofs.circle.Circle.find.Given as goal

abbrev pub invariant-loop-coming : goal.invariant-loop-coming
invariant-loop-coming l = Ahead (circle_bits l.self) l.wanted.0 l.wanted.1 l.first l.data l.unsound l.coming l.frames

abbrev pub decreases-loop-coming : goal.decreases-loop-coming
decreases-loop-coming l = left l.coming l.frames
