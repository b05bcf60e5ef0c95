use Rattle.std.proofs.Common.{◌≡◌, ℕ, true, replicate, sym, refl, ◌∙◌, rules}
use lib.ListN.{length-replicate}
use Rattle.disk.specs.Geometry.{legal}
use Rattle.sector.specs.Source.{loaded}
use Rattle.decoder.proofs.Decodes.{fetched, mapped, answers, buffers, never_refused}
use Rattle.decoder.proofs.decoder.DecoderSectorSource.read.Goals as goal

pub returns-then-not-exists : goal.returns-then-not-exists
unfolding loaded
returns-then-not-exists g c = search rules

pub returns-in_err-bits : goal.returns-in_err-bits
returns-in_err-bits g c =
    let h : legal c.args.place ≡ true = sym c.if-not-exists.ensures in
    absurd (never_refused (g.S.TrackSource.circle c.args.self.now.source) c.args.place 8192 c.in_err-bits.field-0.0 h refl c.in_err-bits.ensures.answer)

pub returns : goal.returns
returns g c =
    let h : legal c.args.place ≡ true = sym c.if-not-exists.ensures in
    let k = c.new.ensures ∙ fetched (g.S.TrackSource.circle c.args.self.now.source) c.args.place c.in_ok-bits.bits (replicate 8192 0) c.fetch.new.buffer h (length-replicate {A = ℕ} 8192 0)
    (g.met.S.TrackSource.bounded c.args.self.now.source c.args.place.0) c.in_ok-bits.ensures.answer c.in_ok-bits.ensures.buffer in
    let m = mapped c.args.place _ c.read_block.result c.map_err.result (λ e f p. search rules) c.map_err.ensures.cases in
    record {
      answer = m ∙ answers (g.S.TrackSource.circle c.args.self.now.source) c.args.place _ c.read_block.result h k c.read_block.ensures.answer;
      buffer = buffers (g.S.TrackSource.circle c.args.self.now.source) c.args.place _ _ _ h k c.read_block.ensures.buffer;
    }
