use Rattle.std.proofs.Common.{refl}
use Rattle.files.proofs.Extracts.{held, extent_is}
use Rattle.files.proofs.extract.measure.Goals as goal

pub returns : goal.returns
returns g c =
    let x = c.extent_of.ensures in
    extent_is (held _ (g.met.D.SectorSource.whole c.args.disk.now) _ c.in_ok-chain.chain _ c.in_ok-chain.ensures.value x.bytes) c.extent_of.result refl x.blocks
