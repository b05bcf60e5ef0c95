use Rattle.std.proofs.Common.{◌≡◌, ℕ, ◌+◌, ◌-◌, ◌*◌, Bool, true, List, length, take, drop, sym, ap, ◌∙◌, arith}
use Rattle.std.proofs.lemmas.List.{length-take-le, length-drop}
use Rattle.gcr.specs.Bits.{bits_of}
use Rattle.track.specs.Laying.{laid_on, fits}
use Rattle.laying.proofs.Whole.{laid_whole}
use Rattle.g64.specs.Layout.{offset_of, length_of}
use Rattle.g64.specs.Image.{stored_on, circle_on}
use Rattle.g64.proofs.Written.{put_valid, put_circle}
use Rattle.g64.specs.Stored.{room, is_given, stored_is}
use Rattle.g64.proofs.medium.lay_stored.Goals as goal

pub slice_bounds-lay_bits-end : goal.slice_bounds-lay_bits-end
slice_bounds-lay_bits-end c =
    let f : List ℕ = c.args.file.now in
    let t : ℕ = c.args.track in
    let y = is_given f t c.requires.given in
    let w = (room f t y.sound_file y.least y.most y.placed).within in
    let a = c.offset_of-begin.ensures.value in
    let n = c.length_of-size.ensures.value in
    omega arith

pub returns : goal.returns
returns c =
    let f : List ℕ = c.args.file.now in
    let t : ℕ = c.args.track in
    let new : List ℕ = c.lay_bits.new.track in
    let A : ℕ = c.offset_of-begin.result + 2 in
    let K : ℕ = (A + c.length_of-size.result) - A in
    let old : List ℕ = take K (drop A f) in
    let y = is_given f t c.requires.given in
    let w = (room f t y.sound_file y.least y.most y.placed).within in
    let p : A ≡ offset_of f t + 2 = ap (λ (x : ℕ). x + 2) c.offset_of-begin.ensures.value in
    let n : c.length_of-size.result ≡ length_of f t = c.length_of-size.ensures.value in
    let q : K ≡ length_of f t = omega arith in
    let o : length old ≡ K = length-take-le K (drop A f) (let x = length-drop A f in omega arith) in
    let same : old ≡ stored_on f t = (λ i. take (q i) (drop (p i) f)) ∙ sym (stored_is f t y.sound_file y.least y.most y.placed) in
    let l : length new ≡ length old = c.lay_bits.auto.track in
    let L : List Bool = take c.args.strip.count (bits_of c.args.strip.bytes.now) in
    let fit : fits (length (bits_of old)) c.args.start c.args.strip.count (length c.args.strip.bytes.now) ≡ true =
    ap (λ (x : List ℕ). fits (length (bits_of x)) c.args.start c.args.strip.count (length c.args.strip.bytes.now)) same ∙ c.requires.fits in
    let e : bits_of new ≡ laid_on c.args.start L (circle_on f t) =
    laid_whole (8 * c.length_of-size.result) c.args.start c.args.strip.count c.args.strip.bytes.now old new (omega arith) l fit c.lay_bits.ensures.circle
    ∙ ap (λ (x : List ℕ). laid_on c.args.start L (bits_of x)) same in
    record {
      small = c.are_bytes.ensures;
      valid = put_valid f new t A K (laid_on c.args.start L) y p q (l ∙ o) e;
      circle = put_circle f new t A K (laid_on c.args.start L) y p q (l ∙ o) e;
    }
