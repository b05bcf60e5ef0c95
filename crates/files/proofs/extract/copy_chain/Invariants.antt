use Rattle.std.proofs.Common.{◌≡◌, ◌*◌, min, ◌++◌, length, take, drop}
use Rattle.files.specs.Files.{all_data}
use Rattle.files.proofs.extract.copy_chain.Given as goal

abbrev pub invariant-loop-k : goal.invariant-loop-k
invariant-loop-k g l =
    l.buffer ≡ take (min (254 * l.k) (length l.initial.buffer)) (all_data (g.D.SectorSource.contents l.disk) l.chain.places.items) ++ drop (min (254 * l.k) (length l.initial.buffer)) l.initial.buffer
