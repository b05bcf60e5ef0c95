use Rattle.std.proofs.Common.{length, ap, arith}
use Rattle.gcr.proofs.Bits.{length_bits_of}
use Rattle.g64.specs.Image.{stored_on}
use Rattle.g64.proofs.image.G64.bits_on.Goals as goal

pub returns : goal.returns
returns c =
    let l = length_bits_of (stored_on c.args.self.now.image.items c.args.track) in
    let m = ap length c.stored.ensures.value in
    omega arith
