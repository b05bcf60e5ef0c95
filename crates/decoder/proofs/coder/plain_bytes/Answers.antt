use Rattle.std.proofs.Common.{ℕ, ◌∷◌, List, [], ap}
use Rattle.std.proofs.lemmas.List.{set_at}
use Rattle.gcr.specs.Sums.{xor_all}
use Rattle.decoder.specs.Writing.{data_bytes}
use Rattle.decoder.proofs.coder.plain_bytes.Goals as goal

pub returns : goal.returns
unfolding data_bytes
returns c =
    rw (c.copy_from_slice.ensures.after, c.checksum.ensures)
    (ap (λ (z : List ℕ). 7 ∷ z) (set_at c.args.block.now 0 (0 ∷ 0 ∷ []) (xor_all c.args.block.now) 256 c.told-block))
