use Rattle.std.proofs.Common.{◌≡◌, ◌-◌, length, ap, arith}
use Rattle.track.specs.Circles.{frames_from}
use Rattle.track.specs.Shown.{circle_bits}
use Rattle.track.proofs.Circles.{length_bits}
use Rattle.track.proofs.circle.Circle.frames.Goals as goal

pub returns-clause-rest : goal.returns-clause-rest
returns-clause-rest c =
    let n = length_bits c.args.self.now in
    ap (frames_from (circle_bits c.args.self.now) 0) (let e : c.args.self.now.bits - 0 ≡ length (circle_bits c.args.self.now) = omega arith in e)
