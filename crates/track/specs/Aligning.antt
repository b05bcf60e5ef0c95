-- Where a circle first begins right after a sync, and a circle in a buffer.
use Rattle.std.specs.Prelude.{ℕ, zero, suc, Bool, cond, List, length, nat_lt}
use Rattle.track.specs.Circles.{turned, start}
use Rattle.track.specs.Fetching.{pack, laid}

-- the first of the n places from p on where the circle begins right after a sync, or 0
abbrev pub start_from : List Bool → ℕ → ℕ → ℕ
start_from c p zero = 0
start_from c p (suc n) = cond (start (turned p c)) p (start_from c (suc p) n)

-- the first place of all
abbrev pub first_start : List Bool → ℕ
first_start c = start_from c 0 (length c)

-- a buffer after a circle was written into it; one too small for any track stays
abbrev pub pack_buffer : List Bool → List ℕ → List ℕ
pack_buffer c old = cond (nat_lt (length old) 8192) old (laid (pack c) old)
