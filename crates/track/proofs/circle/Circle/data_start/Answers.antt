use Rattle.std.proofs.Common.{sym, ◌∙◌, arith}
use Rattle.track.specs.Circles.{frames}
use Rattle.track.specs.Shown.{shown, said, circle_bits}
use Rattle.track.proofs.Circles.{length_bits, length_shown}
use Rattle.track.proofs.Rooms.{not_some, roomy}
use Rattle.track.proofs.circle.Circle.data_start.Goals as goal

pub returns : goal.returns
returns c =
    let e = c.in_ok-window.ensures in
    let w = c.in_ok-window.window in
    let n = length_bits c.args.self.now in
    let l = length_shown w in
    let h = c.if-window-lt-DATA_BITS.false in
    let m = e.1 in
    record {
      near = omega arith;
      placed = e.2;
      room = roomy (frames (circle_bits c.args.self.now)) c.args.wanted.0 c.args.wanted.1 (shown w) e.0 (sym (not_some said c.header.result c.if-is_some.ensures ∙ c.header.ensures)) (omega arith);
    }
