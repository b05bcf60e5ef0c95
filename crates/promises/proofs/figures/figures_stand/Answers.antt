use Rattle.std.proofs.Common.{refl}
use Rattle.disk.specs.Geometry.{legal, index_of, order_of, placed_at}
use Rattle.track.specs.Headers.{byte_at}
use Rattle.promises.proofs.figures.figures_stand.Goals as goal

pub returns : goal.returns
unfolding legal index_of order_of placed_at byte_at
returns c =
    (refl, (refl, (refl, (refl, (refl, (refl, (refl, (refl, (refl, (refl, (refl, (refl, (refl, (refl, (refl, (refl, (refl, (refl, (refl, (refl, (refl, tt)))))))))))))))))))))
