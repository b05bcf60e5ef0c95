-- What a G64 image holds, and the check of one.
use Rattle.std.specs.Prelude.{ℕ, ◌+◌, Bool, cond, not, ◌&&◌, List, [], take, drop, Ok, Err, Result, ◌==◌}
use Rattle.disk.specs.declared.cause.Cause.TheVariants.{BadImage}
use Rattle.disk.specs.declared.layer.Layer.TheVariants.{Image}
use Rattle.disk.specs.declared.refusal.Refusal.{Refusal}
use Rattle.disk.specs.Refusals.{refusal}
use Rattle.gcr.specs.Bits.{bits_of}
use Rattle.track.specs.Fetching.{on_disk}
use Rattle.g64.specs.Layout.{offset_of, length_of, valid}

-- the file gives track t
abbrev pub given : List ℕ → ℕ → Bool
given f t = valid f && (on_disk t && not (offset_of f t == 0))

-- the bytes of track t; a file that is no image has none on any track
unfoldable pub stored_on : List ℕ → ℕ → List ℕ
stored_on f t = cond (given f t) (take (length_of f t) (drop (offset_of f t + 2) f)) []

-- the circle of bits of track t
abbrev pub circle_on : List ℕ → ℕ → List Bool
circle_on f t = bits_of (stored_on f t)

-- the check of a file
abbrev pub checked : List ℕ → Result Unit Refusal
checked f = cond (valid f) (Ok tt) (Err (refusal BadImage Image (0, 0)))
