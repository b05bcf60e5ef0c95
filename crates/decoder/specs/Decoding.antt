-- What the circles of tracks say as blocks.
use Rattle.std.specs.Prelude.{ℕ, Bool, List, Ok, Err, Result}
use Rattle.disk.specs.declared.cause.Cause.{Cause}
use Rattle.sector.specs.Source.{Reading, bytes, fault, Disk}
use Rattle.track.specs.Circles.{frames}
use Rattle.track.specs.Reading.{read_block}

abbrev pub reading_of : Result (List ℕ) Cause → Reading
reading_of (Ok b) = bytes b
reading_of (Err c) = fault c

-- block t/s is read from the frames of track t
unfoldable pub decoded : (ℕ → List Bool) → Disk
decoded circle p = reading_of (read_block (frames (circle p.0)) p.0 p.1)
