use Rattle.std.proofs.Common.{◌≡◌, ℕ, ◌*◌, List, length, sym, ap, ◌∙◌, arith}
use Rattle.gcr.proofs.Bits.{length_bits_of}
use Rattle.track.specs.Fetching.{laid}
use Rattle.g64.specs.Image.{stored_on, circle_on}
use Rattle.track.proofs.Fetches.{answered, buffered}
use Rattle.g64.specs.Stored.{packs, stored_bytes, copied_is}
use Rattle.g64.proofs.image.G64TrackSource.fetch.Goals as goal

pub returns : goal.returns
returns c =
    let f : List ℕ = c.args.self.now.image.items in
    let t : ℕ = c.args.track in
    let old : List ℕ = c.args.buffer.now in
    let v = c.stored-bytes.ensures.value in
    let d = sym c.if-not-is_on_disk.ensures in
    let b = length_bits_of (stored_on f t) in
    let m = ap length v in
    let count : 8 * length c.stored-bytes.result.now ≡ length (circle_on f t) = omega arith in
    record {
      answer = answered (circle_on f) t (8 * length c.stored-bytes.result.now) (length old) d (omega arith) count;
      buffer =
          copied_is (length c.stored-bytes.result.now) (stored_on f t) old c.copy_from_slice.new.self (c.copy_from_slice.ensures.after ∙ v) m
          ∙ ap (λ (x : List ℕ). laid x old) (sym (packs (stored_on f t) (stored_bytes f t c.args.self.now.small)))
          ∙ sym (buffered (circle_on f) t old d (omega arith));
    }
