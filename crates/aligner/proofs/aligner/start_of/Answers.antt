use Rattle.std.proofs.Common.{◌≡◌, ℕ, ◌≤◌, Bool, List, length, replicate, sym, ap, ◌∙◌, arith}
use lib.ListN.{length-replicate}
use Rattle.std.proofs.lemmas.Bool.{cond-true}
use Rattle.track.specs.Fetching.{on_disk}
use Rattle.track.specs.Aligning.{first_start}
use Rattle.track.proofs.Fetches.{fetched_on, fetched_bits, fetched_circle}
use Rattle.aligner.proofs.aligner.start_of.Goals as goal

pub returns : goal.returns
returns g c =
    let s : ℕ → List Bool = g.S.TrackSource.circle c.args.source.now in
    let t : ℕ = c.args.track in
    let z : List ℕ = replicate {A = ℕ} 8192 0 in
    let l : length z ≡ 8192 = length-replicate {A = ℕ} 8192 0 in
    let m : 8192 ≤ length z = omega arith in
    let b = g.met.S.TrackSource.bounded c.args.source.now t in
    let d = fetched_on s t c.in-Ok.bits (length z) m c.in-Ok.ensures.answer in
    let n = fetched_bits s t c.in-Ok.bits (length z) d m c.in-Ok.ensures.answer in
    let e = fetched_circle s t c.in-Ok.bits z c.fetch.new.buffer d m b n c.in-Ok.ensures.buffer in
    c.first_start.ensures.place ∙ ap first_start (c.new.ensures ∙ e) ∙ sym (cond-true (on_disk t) (first_start (s t)) 0 d)
