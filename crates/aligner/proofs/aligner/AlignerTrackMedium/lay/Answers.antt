use Rattle.std.proofs.Common.{◌≡◌, ℕ, ◌≤◌, Bool, List, length, get_or, replicate, ap, ◌∙◌, arith}
use lib.ListN.{length-replicate}
use Rattle.track.specs.Circles.{turned}
use Rattle.track.proofs.Fetches.{fetched_on, fetched_bits}
use Rattle.aligner.specs.Turning.{unturned}
use Rattle.aligner.proofs.Places.{turned_lay}
use Rattle.aligner.proofs.aligner.AlignerTrackMedium.lay.Goals as goal

pub returns : goal.returns
returns g c =
    let s : ℕ → List Bool = g.M.TrackSource.circle c.args.self.now.source in
    let G : Bool = g.M.TrackMedium.protected c.args.self.now.source in
    let t : ℕ = c.args.track in
    let k : ℕ → ℕ = λ u. get_or c.args.self.now.starts u 0 in
    let z : List ℕ = replicate {A = ℕ} 8192 0 in
    let l : length z ≡ 8192 = length-replicate {A = ℕ} 8192 0 in
    let m : 8192 ≤ length z = omega arith in
    let d = fetched_on s t c.in_ok-size.size (length z) m c.in_ok-size.ensures.answer in
    let n = fetched_bits s t c.in_ok-size.size (length z) d m c.in_ok-size.ensures.answer in
    let q = c.place_of.ensures ∙ ap (λ (x : ℕ). unturned x (k t) c.args.start) n in
    let T = turned_lay G s k t c.args.start c.place_of.result c.args.strip.count c.args.strip.bytes.now q in
    record {
      answer = c.lay.ensures.answer ∙ T.answer;
      circle = λ u. ap (turned (k u)) (c.lay.ensures.circle u) ∙ T.circle u;
      protected = c.lay.ensures.protected;
    }
