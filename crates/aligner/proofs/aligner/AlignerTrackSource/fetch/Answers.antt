use Rattle.std.proofs.Common.{◌≡◌, ℕ, ◌≤◌, Bool, List, length, get_or, replicate, sym, ap, ◌∙◌, arith}
use lib.ListN.{length-replicate}
use Rattle.std.proofs.lemmas.Bool.{cond-true}
use Rattle.track.specs.Circles.{turned}
use Rattle.track.specs.Fetching.{on_disk}
use Rattle.track.specs.Aligning.{pack_buffer}
use Rattle.track.proofs.Circles.{length_turned}
use Rattle.track.proofs.Fetches.{fetched_on, fetched_bits, fetched_circle, answered}
use Rattle.aligner.proofs.aligner.AlignerTrackSource.fetch.Goals as goal

pub returns : goal.returns
returns g c =
    let s : ℕ → List Bool = g.S.TrackSource.circle c.args.self.now.source in
    let t : ℕ = c.args.track in
    let k : ℕ = get_or c.args.self.now.starts t 0 in
    let C : ℕ → List Bool = λ i. turned (get_or c.args.self.now.starts i 0) (s i) in
    let old : List ℕ = c.args.buffer.now in
    let z : List ℕ = replicate {A = ℕ} 8192 0 in
    let l : length z ≡ 8192 = length-replicate {A = ℕ} 8192 0 in
    let m : 8192 ≤ length z = omega arith in
    let b = g.met.S.TrackSource.bounded c.args.self.now.source t in
    let d = fetched_on s t c.in_ok-bits.bits (length z) m c.in_ok-bits.ensures.answer in
    let n = fetched_bits s t c.in_ok-bits.bits (length z) d m c.in_ok-bits.ensures.answer in
    let e = fetched_circle s t c.in_ok-bits.bits z c.fetch.new.buffer d m b n c.in_ok-bits.ensures.buffer in
    record {
      answer = answered C t c.in_ok-bits.bits (length old) d c.if-buffer-lt8192.false (n ∙ sym (length_turned k (s t)));
      buffer = c.pack_turned.ensures ∙ ap (λ (x : List Bool). pack_buffer (turned k x) old) (c.new.ensures ∙ e) ∙ sym (cond-true (on_disk t) (pack_buffer (C t) old) old d);
    }
