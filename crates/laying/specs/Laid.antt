-- The circle that bytes hold, after bits were laid on it.
use Rattle.std.specs.Prelude.{ℕ, ◌*◌, Bool, cond, ◌&&◌, List, length, take, nat_le}
use Rattle.gcr.specs.Bits.{bits_of}
use Rattle.track.specs.Circles.{circle_of}
use Rattle.track.specs.Laying.{laid_on, fits}

-- the bytes hold a circle of so many bits, and n bits of the given bytes fit it from place p on
abbrev pub lays : ℕ → ℕ → ℕ → List ℕ → List ℕ → Bool
lays size p n given bytes = nat_le size (length bytes * 8) && fits size p n (length given)

-- the circle after they were laid on it; else it stays
abbrev pub laid_circle : ℕ → ℕ → ℕ → List ℕ → List ℕ → List Bool
laid_circle size p n given bytes =
    cond (lays size p n given bytes) (laid_on p (take n (bits_of given)) (circle_of size bytes)) (circle_of size bytes)
