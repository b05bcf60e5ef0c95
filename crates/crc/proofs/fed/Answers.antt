use Rattle.std.proofs.Common.{ℕ, ap, ◌∙◌, rules, bit_xor}
use Rattle.std.proofs.lemmas.Iterator.{YieldsList-from_range}
use Rattle.std.proofs.lemmas.Iterator.Consumers.{fold_from_yields_List}
use Rattle.crc.specs.Crc.{shifted, fed}
use Rattle.crc.proofs.Turns.{fold_turns}
use Rattle.crc.proofs.fed.Goals as goal

pub returns : goal.returns
unfolding fed
returns c =
    fold_from_yields_List _ (λ y _. shifted y) _ _ c.fold.ensures.ran (YieldsList-from_range 0 8 8 (cc) (cc)) (λ a x b q k. search rules)
    ∙ fold_turns shifted (bit_xor c.args.register c.from.result) 0 8 ∙ ap (λ (b : ℕ). fed c.args.register b) c.from.ensures
