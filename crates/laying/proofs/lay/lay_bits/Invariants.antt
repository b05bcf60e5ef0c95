use Rattle.std.proofs.Common.{◌≡◌, take, drop}
use Rattle.gcr.specs.Bits.{bits_of}
use Rattle.track.specs.Circles.{circle_of}
use Rattle.laying.proofs.Places.{around}
use Rattle.laying.proofs.Puts.{put_bits}
use Rattle.laying.proofs.lay.lay_bits.Given as goal

abbrev pub invariant-loop-at : goal.invariant-loop-at
invariant-loop-at l = record {
  circle : put_bits (circle_of l.bits l.track) (around l.bits l.start l.at) (drop l.at (take l.strip.count (bits_of l.strip.bytes.now)))
      ≡ put_bits (circle_of l.bits l.initial.track) l.start (take l.strip.count (bits_of l.strip.bytes.now));
  spare : drop l.bits (bits_of l.track) ≡ drop l.bits (bits_of l.initial.track);
}
