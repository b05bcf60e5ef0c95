-- What writing a block lays on its track, and when it may be written.
use Rattle.std.specs.Prelude.{ℕ, Bool, cond, List, [], ◌∷◌, ◌++◌, Ok, Err, Result}
use Rattle.std.specs.List.{flat_map}
use Rattle.disk.specs.declared.cause.Cause.{Cause}
use Rattle.disk.specs.declared.cause.Cause.TheVariants.{Protected}
use Rattle.gcr.specs.Codes.{ten}
use Rattle.gcr.specs.Sums.{xor_all}
use Rattle.sector.specs.Device.{Answer, free, barred, Answers}
use Rattle.track.specs.Circles.{frames}
use Rattle.track.specs.Room.{room_for}

-- the bytes of a data block: the mark $07, the block, its checksum, and two zeros
unfoldable pub data_bytes : List ℕ → List ℕ
data_bytes b = 7 ∷ (b ++ (xor_all b ∷ 0 ∷ 0 ∷ []))

-- its bits on the track, all bytes coded
unfoldable pub data_bits : List ℕ → List Bool
data_bits b = flat_map ten (data_bytes b)

abbrev pub answer_of : Result Unit Cause → Answer
answer_of (Ok x) = free
answer_of (Err c) = barred c

-- the write answers of the blocks on a medium: of a protected one no block is free
unfoldable pub decoder_answers : Bool → (ℕ → List Bool) → Answers
decoder_answers protected circle p = cond protected (barred Protected) (answer_of (room_for (frames (circle p.0)) p.0 p.1))
