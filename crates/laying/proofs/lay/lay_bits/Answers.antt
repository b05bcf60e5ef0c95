use Rattle.std.proofs.Common.{◌≡◌, ℕ, ◌*◌, ◌≤◌, Bool, true, false, leb, List, length, get_or, take, sym, ◌∙◌, arith}
use Rattle.std.proofs.lemmas.Bool.{cond-true, le-leb, and_from}
use Rattle.std.proofs.lemmas.List.{get_or-take, length-take-le}
use Rattle.gcr.specs.Bits.{bits_of}
use Rattle.gcr.proofs.Bits.{length_bits_of}
use Rattle.track.specs.Circles.{circle_of}
use Rattle.track.specs.Laying.{laid_on, fits}
use Rattle.laying.specs.Laid.{lays}
use Rattle.laying.proofs.Places.{around_less}
use Rattle.laying.proofs.Puts.{put_more, put_spare, put_all, put_laid}
use Rattle.laying.proofs.Spans.{span}
use Rattle.laying.proofs.lay.lay_bits.Goals as goal

pub loop-at-preserved : goal.loop-at-preserved
loop-at-preserved c =
    let n : ℕ = c.args.bits in
    let p : ℕ = c.args.start in
    let m : ℕ = c.args.strip.count in
    let k : ℕ = c.loop-at.at in
    let A : List Bool = bits_of c.loop-at.track in
    let B : List Bool = bits_of c.args.strip.bytes.now in
    let L : List Bool = take m B in
    let s = span n p m (length c.args.strip.bytes.now) (sym c.if-not-span_fits.ensures) in
    let g = s.given in
    let w = s.short in
    let x = length_bits_of c.loop-at.track in
    let l = length-take-le m B (let y = length_bits_of c.args.strip.bytes.now in omega arith) in
    let near = around_less n p k s.near (omega arith) in
    let b : c.bit_at.result ≡ get_or L k false = c.bit_at.ensures ∙ sym (get_or-take m B k false (omega arith)) in
    record {
      circle = put_more n p k _ c.place_on.result A (bits_of c.set_bit.new.bytes) L _ c.bit_at.result s.near (omega arith) c.place_on.ensures c.set_bit.ensures b (omega arith) (omega arith) (omega arith) c.loop-at.invariant.circle;
      spare = put_spare n c.place_on.result A (bits_of c.set_bit.new.bytes) _ c.bit_at.result (let e = c.place_on.ensures in omega arith) c.set_bit.ensures c.loop-at.invariant.spare;
    }

pub returns-clause-circle : goal.returns-clause-circle
returns-clause-circle c =
    let n : ℕ = c.args.bits in
    let p : ℕ = c.args.start in
    let m : ℕ = c.args.strip.count in
    let old : List ℕ = c.args.track.now in
    let new : List ℕ = c.args.strip.bytes.now in
    let L : List Bool = take m (bits_of new) in
    let C : List Bool = circle_of n old in
    let f : fits n p m (length new) ≡ true = sym c.if-not-span_fits.ensures in
    let s = span n p m (length new) f in
    let near = s.near in
    let short = s.short in
    let g = s.given in
    let held : n ≤ length old * 8 = omega arith in
    let l : length C ≡ n = length-take-le n (bits_of old) (let e = length_bits_of old in omega arith) in
    let j : length L ≡ m = length-take-le m (bits_of new) (let e = length_bits_of new in omega arith) in
    put_all (circle_of n c.loop-at.track) L _ _ c.loop-at.at (omega arith) c.loop-at.invariant.circle
    ∙ put_laid L C p (omega arith) (omega arith)
    ∙ sym (cond-true (lays n p m new old) (laid_on p L C) C (and_from (leb n (length old * 8)) (fits n p m (length new)) (le-leb n (length old * 8) held) f))
