use Rattle.std.proofs.Common.{sym, arith}
use Rattle.gcr.proofs.Bits.{getD_bits_of}
use Rattle.track.proofs.circle.Circle.bit.Goals as goal

pub returns : goal.returns
returns c = let h = c.args.self.now.held in sym (getD_bits_of c.args.self.now.bytes.now c.args.at (omega (arith, c.requires)))
