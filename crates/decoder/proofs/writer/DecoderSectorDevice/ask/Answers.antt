use Rattle.decoder.proofs.Devices.{is_free}
use Rattle.decoder.proofs.writer.DecoderSectorDevice.ask.Goals as goal

pub returns : goal.returns
returns g c =
    let e = c.in_ok-find_room.ensures in
    is_free (g.M.TrackMedium.protected c.args.self.now.source) (g.M.TrackSource.circle c.args.self.now.source) c.args.place e.0 e.1 c.in_ok-find_room.field-0 e.2
