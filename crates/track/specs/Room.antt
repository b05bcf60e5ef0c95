-- Whether a block can be written, and from which place of its track's circle on.
use Rattle.std.specs.Prelude.{◌≡◌, ℕ, ◌<◌, Bool, true, cond, List, length, Some, None, Ok, Err, Option, Result, nat_lt}
use Rattle.disk.specs.declared.cause.Cause.{Cause}
use Rattle.disk.specs.declared.cause.Cause.TheVariants.{NoData, ShortFrame}
use Rattle.track.specs.Circles.{frames}
use Rattle.track.specs.Headers.{header}
use Rattle.track.specs.Places.{data_place}
use Rattle.track.specs.Reading.{Sought, at, missing, sought}

-- the frame after the header takes a data block if it is no header and has the bits for one; what it says as a header, and its number of bits
abbrev pub room : Option (Bool × (ℕ × ℕ)) → ℕ → Result Unit Cause
room (Some h) n = Err NoData
room None n = cond (nat_lt n 2600) (Err ShortFrame) (Ok tt)

abbrev pub sought_room : Sought → Result Unit Cause
sought_room (at f) = room (header f) (length f)
sought_room (missing c) = Err c

-- whether block t/s can be written on a track of these frames
abbrev pub room_for : List (List Bool) → ℕ → ℕ → Result Unit Cause
room_for fs t s = sought_room (sought fs t s)

-- block t/s of a circle can be written, and its data goes from place p on
pub record FreeAt (c : List Bool) (t s p : ℕ) : Type 0 where
  pub near : p < length c
  pub placed : data_place c t s p ≡ true
  pub room : room_for (frames c) t s ≡ Ok tt
