use Rattle.std.proofs.Common.{◌≡◌, ℕ, ◌*◌, min, List, length, ap, sym, ◌∙◌, inl, inr, arith}
use Rattle.std.proofs.lemmas.List.{take_all}
use Rattle.std.proofs.lemmas.Bool.{cases_lt}
use Rattle.gcr.specs.Bits.{bits_of}
use Rattle.gcr.proofs.Bits.{length_bits_of}
use Rattle.track.specs.Circles.{circle_of}
use Rattle.track.proofs.circle.Circle.new.Goals as goal

-- as many bits as the bytes hold, or as many as are wanted
all_held : (r n : ℕ) (bs : List ℕ) → r ≡ min (min n 65536) (min (length bs) 8192 * 8) → circle_of r bs ≡ circle_of (min n 65536) bs
all_held r n bs e = elim (cases_lt (min (length bs) 8192 * 8) (min n 65536)) [
  | inl h ↦ (let l = length_bits_of bs in
      take_all r (bits_of bs) (omega arith) ∙ sym (take_all (min n 65536) (bits_of bs) (omega arith)))
  | inr h ↦ (let s : r ≡ min n 65536 = omega arith in ap (λ (k : ℕ). circle_of k bs) s)
]

pub returns : goal.returns
returns c = all_held _ c.args.bits c.args.bytes.now (omega (arith, c.min-held.ensures))
