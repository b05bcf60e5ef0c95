-- A circle that fills its bytes.
use Rattle.std.proofs.Common.{◌≡◌, ℕ, ◌*◌, true, leb, List, length, take, sym, ap, ◌∙◌, arith}
use Rattle.std.proofs.lemmas.List.{take_all}
use Rattle.std.proofs.lemmas.Bool.{cond-true, and_from, le-leb}
use Rattle.gcr.specs.Bits.{bits_of}
use Rattle.gcr.proofs.Bits.{length_bits_of}
use Rattle.track.specs.Circles.{circle_of}
use Rattle.track.specs.Laying.{laid_on, fits}
use Rattle.laying.specs.Laid.{lays, laid_circle}

pub circle_whole : (n : ℕ) (bs : List ℕ) → n ≡ length bs * 8 → circle_of n bs ≡ bits_of bs
circle_whole n bs e = let l = length_bits_of bs in take_all n (bits_of bs) (omega arith)

pub laid_whole : (N p n : ℕ) (given old new : List ℕ) → N ≡ length old * 8 → length new ≡ length old → fits (length (bits_of old)) p n (length given) ≡ true
    → circle_of N new ≡ laid_circle N p n given old → bits_of new ≡ laid_on p (take n (bits_of given)) (bits_of old)
laid_whole N p n given old new e l f h =
    let k : N ≡ length (bits_of old) = e ∙ sym (length_bits_of old) in
    let held : leb N (length old * 8) ≡ true = le-leb N (length old * 8) (omega arith) in
    let yes : lays N p n given old ≡ true = and_from (leb N (length old * 8)) (fits N p n (length given)) held (ap (λ (x : ℕ). fits x p n (length given)) k ∙ f) in
    sym (circle_whole N new (omega arith)) ∙ h
    ∙ cond-true (lays N p n given old) (laid_on p (take n (bits_of given)) (circle_of N old)) (circle_of N old) yes
    ∙ ap (laid_on p (take n (bits_of given))) (circle_whole N old e)
