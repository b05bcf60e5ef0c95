-- Places of a circle that is turned.
use Rattle.std.specs.Prelude.{ℕ, ◌+◌, ◌-◌, ◌≤◌, Bool, cond, ◌||◌, List, length, nat_le, nat_lt}
use Rattle.std.proofs.Common.{arith}
use Rattle.track.specs.Circles.{turned}
use Rattle.track.proofs.Circles.{length_turned}

-- place p of a circle of n bits that is turned to begin at place k, as a place of the circle itself; past the circle's end it stays
abbrev pub unturned : ℕ → ℕ → ℕ → ℕ
unturned n k p = cond (nat_le n k || nat_le n p) p (cond (nat_lt p (n - k)) (k + p) (p - (n - k)))

-- a turned circle is no longer than it was
pub turned_bounded : (k : ℕ) (c : List Bool) → length c ≤ 65536 → length (turned k c) ≤ 65536
turned_bounded k c h = let e = length_turned k c in omega arith
