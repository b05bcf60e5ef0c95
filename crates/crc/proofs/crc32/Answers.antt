use Rattle.std.proofs.Common.{ℕ, ap, rules, bit_xor}
use Rattle.std.proofs.lemmas.Iterator.{YieldsList-from_slice}
use Rattle.std.proofs.lemmas.Iterator.Consumers.{fold_from_yields_List}
use Rattle.crc.specs.Crc.{fed, crc32}
use Rattle.crc.proofs.crc32.Goals as goal

pub returns : goal.returns
unfolding crc32
returns c =
    ap (λ (x : ℕ). bit_xor x 0xffff_ffff)
    (fold_from_yields_List _ fed _ _ c.fold.ensures.ran (YieldsList-from_slice c.args.bytes.now (cc)) (λ a x b q k. search rules))
