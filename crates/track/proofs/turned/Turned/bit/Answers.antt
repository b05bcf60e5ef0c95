use Rattle.std.proofs.Common.{◌≡◌, ℕ, ◌+◌, ◌-◌, false, length, get_or, sym, ap, ◌∙◌, arith}
use Rattle.std.proofs.lemmas.List.{get_or-take}
use Rattle.gcr.specs.Bits.{bits_of}
use Rattle.track.specs.Shown.{circle_bits}
use Rattle.track.proofs.Circles.{length_bits, getD_turned_low, getD_turned_high}
use Rattle.track.proofs.turned.Turned.bit.Goals as goal

pub returns-then-self-left : goal.returns-then-self-left
returns-then-self-left c =
    let t = c.args.self.now in
    let k = t.circle in
    let n = length_bits k in
    c.bit.ensures
    ∙ sym (get_or-take k.bits (bits_of k.bytes.now) (t.first + c.args.i) false (omega arith))
    ∙ sym (getD_turned_low t.first (circle_bits k) c.args.i false (omega arith))

pub returns-else-self-left : goal.returns-else-self-left
returns-else-self-left c =
    let t = c.args.self.now in
    let k = t.circle in
    let n = length_bits k in
    c.bit-else-self-left.ensures
    ∙ sym (get_or-take k.bits (bits_of k.bytes.now) (t.first - (k.bits - c.args.i)) false (omega arith))
    ∙ ap (λ (j : ℕ). get_or (circle_bits k) j false)
    (let e : t.first - (k.bits - c.args.i) ≡ t.first + c.args.i - length (circle_bits k) = omega arith in e)
    ∙ sym (getD_turned_high t.first (circle_bits k) c.args.i false (omega arith) (omega arith) (omega arith))
