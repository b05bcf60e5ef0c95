use Rattle.std.proofs.Common.{◌∙◌, arith}
use Rattle.track.specs.Shown.{turned_bits}
use Rattle.track.proofs.Circles.{len, start_is}
use Rattle.track.proofs.turned.Turned.begins_frame.Goals as goal

pub returns-then-not-bit : goal.returns-then-not-bit
returns-then-not-bit c =
    let n = len c.args.self.now in
    c.ten_ones.ensures ∙ start_is (turned_bits c.args.self.now) _ c.if-not-bit.ensures (omega arith)
