-- Laying bits on the circle of a track.
use Rattle.std.specs.Prelude.{ℕ, ◌-◌, ◌*◌, Bool, cond, ◌&&◌, List, length, take, is_ok, Ok, Err, Result, ◌==◌, nat_le, nat_lt}
use Rattle.disk.specs.declared.cause.Cause.TheVariants.{NoSuchBlock, Protected, BadSpan}
use Rattle.disk.specs.declared.layer.Layer.TheVariants.{Track}
use Rattle.disk.specs.declared.refusal.Refusal.{Refusal}
use Rattle.disk.specs.Refusals.{refusal, by_caller}
use Rattle.gcr.specs.Bits.{bits_of}
use Rattle.track.specs.Circles.{turned}
use Rattle.track.specs.Fetching.{on_disk, laid}

-- a circle with bits laid on it from place p on, round its end: turned to p, it begins with them
abbrev pub laid_on : ℕ → List Bool → List Bool → List Bool
laid_on p l c = turned (length c - p) (laid l (turned p c))

-- n bits, of m bytes given, fit a circle of so many bits from place p on
abbrev pub fits : ℕ → ℕ → ℕ → ℕ → Bool
fits size p n m = nat_lt p size && (nat_le n size && nat_le n (m * 8))

-- what laying answers on track t
abbrev pub lay_result : Bool → ℕ → ℕ → ℕ → ℕ → ℕ → Result Unit Refusal
lay_result protected size t p n m =
    cond (on_disk t)
    (cond protected (Err (refusal Protected Track (t, 0))) (cond (fits size p n m) (Ok tt) (Err (by_caller BadSpan))))
    (Err (refusal NoSuchBlock Track (t, 0)))

-- the circle of track u after the first n bits of bytes were laid on track t: no other changes, and none where laying is refused
abbrev pub lay_circle : Bool → (ℕ → List Bool) → ℕ → ℕ → ℕ → List ℕ → ℕ → List Bool
lay_circle protected c t p n bytes u =
    cond (is_ok (lay_result protected (length (c t)) t p n (length bytes)) && u == t) (laid_on p (take n (bits_of bytes)) (c u)) (c u)
