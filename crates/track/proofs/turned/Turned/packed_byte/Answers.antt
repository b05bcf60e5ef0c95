use Rattle.std.proofs.Common.{◌≡◌, ℕ, ◌+◌, ◌*◌, Bool, false, List, get_or, drop, sym, ap, ◌∙◌, arith}
use Rattle.std.proofs.lemmas.List.{length-drop, get_or-drop, get_or_past}
use Rattle.track.specs.Shown.{turned_bits}
use Rattle.std.proofs.lemmas.Bool.{le-ltb}
use Rattle.track.proofs.Circles.{len, as_bit, bit_added}
use Rattle.track.proofs.Packing.{begun_step}
use Rattle.track.proofs.turned.Turned.packed_byte.Goals as goal
use Rattle.track.proofs.turned.Turned.packed_byte.Goals.{then-i-self, else-i-self}

pub loop-j-preserved : goal.loop-j-preserved
loop-j-preserved c =
    let a : List Bool = turned_bits c.args.self.now in
    let j : ℕ = c.loop-j.j in
    let n = len c.args.self.now in
    let d = length-drop (c.args.k * 8) a in
    let g : c.if-i-self.bit ≡ get_or (drop (c.args.k * 8) a) j false =
    elim c.if-i-self.branch [
      | then-i-self w ↦ w.bit-is ∙ w.bit-bit.ensures
      | else-i-self w ↦ w.bit-is ∙ (let h = w.if-i-self.false in le-ltb _ _ h ∙ sym (get_or_past a (c.args.k * 8 + j) false (omega arith)))
    ] ∙ sym (get_or-drop (c.args.k * 8) a j false) in
    let v = ap (λ (b : ℕ). c.loop-j.code * 2 + b) (as_bit c.if-i-self.bit) in (
      bit_added c.loop-j.code j _ c.if-i-self.bit c.loop-j.invariant.0 v,
      c.loop-j.invariant.1 ∙ begun_step (drop (c.args.k * 8) a) j c.loop-j.code _ c.if-i-self.bit (omega arith) (omega arith) g v,
    )
