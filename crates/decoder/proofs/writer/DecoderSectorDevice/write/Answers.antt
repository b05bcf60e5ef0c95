use Rattle.std.proofs.Common.{◌≡◌, ℕ, Bool, List, length, rules}
use Rattle.decoder.specs.Decoding.{decoded}
use Rattle.decoder.specs.Writing.{decoder_answers}
use Rattle.decoder.proofs.Devices.{left_as_is, wrote}
use Rattle.decoder.proofs.writer.DecoderSectorDevice.write.Goals as goal

pub returns-in_err-start-clause-contents : goal.returns-in_err-start-clause-contents
returns-in_err-start-clause-contents g c =
    let C : ℕ → List Bool = g.M.TrackSource.circle c.args.self.now.source in
    left_as_is (decoder_answers (g.M.TrackMedium.protected c.args.self.now.source) C) (decoded C) c.args.place c.args.block.now c.in_err-start.field-0.0 c.in_err-start.ensures

pub returns : goal.returns
returns g c =
    let m = c.args.self.now.source in
    let e = c.in_ok-start.ensures in
    let l : length c.data_block.result ≡ 325 = search rules in
    let W = wrote (g.M.TrackMedium.protected m) (g.M.TrackMedium.protected c.lay.new.self) (g.M.TrackSource.circle m) (g.M.TrackSource.circle c.lay.new.self)
    c.args.place c.in_ok-start.start c.args.block.now c.data_block.result c.lay.result
    e.0 e.1 e.2 c.told-block c.fits-block l c.data_block.ensures c.lay.ensures.answer c.lay.ensures.circle c.lay.ensures.protected in
    record { answer = W.answer; contents = W.contents; answers = W.answers; syncs = W.syncs }
