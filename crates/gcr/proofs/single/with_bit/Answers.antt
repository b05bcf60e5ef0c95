use Rattle.std.proofs.Common.{ℕ, ◌-◌, ◌<◌, eqb, sym, ap, ◌∙◌, w8, arith}
use Rattle.std.proofs.lemmas.Nat.Bits.{bit_at_set_same, bit_at_set_other, bit_at_clear_same, bit_at_clear_other}
use Rattle.gcr.proofs.Sets.{bits_set}
use Rattle.gcr.proofs.single.with_bit.Goals as goal

pub returns-then-bit : goal.returns-then-bit
returns-then-bit c =
    let k : 7 - c.args.at < 8 = omega arith in
    bits_set c.args.byte _ c.args.at c.args.bit c.requires
    (ap (λ (z : ℕ). eqb z 1) (bit_at_set_same w8 c.args.byte (7 - c.args.at) k) ∙ sym c.if-bit.true)
    (λ i h n. ap (λ (z : ℕ). eqb z 1) (bit_at_set_other w8 c.args.byte (7 - c.args.at) k i n))

pub returns-else-bit : goal.returns-else-bit
returns-else-bit c =
    let k : 7 - c.args.at < 8 = omega arith in
    bits_set c.args.byte _ c.args.at c.args.bit c.requires
    (ap (λ (z : ℕ). eqb z 1) (bit_at_clear_same w8 c.args.byte (7 - c.args.at) k) ∙ sym c.if-bit.false)
    (λ i h n. ap (λ (z : ℕ). eqb z 1) (bit_at_clear_other w8 c.args.byte (7 - c.args.at) k i h n))
