-- What holds of every circle turned to its first start.
use Rattle.std.specs.Prelude.{◌≡◌, ℕ, ◌≤◌, Bool, true, false, List, length}
use Rattle.track.specs.Circles.{turned, start, frames}
use Rattle.track.specs.Reading.{read_block}

-- the circle c is aligned when turned to place p
pub record Aligned (c : List Bool) (p : ℕ) : Type 0 where
  pub within : p ≤ length c
  -- where c begins right after a sync at any place, it does so at p, and at none before
  pub begins : (q : ℕ) → start (turned q c) ≡ true → start (turned p c) ≡ true
  pub least : (q : ℕ) → start (turned q c) ≡ true → p ≤ q
  -- any other circle stays
  pub stays : ((q : ℕ) → start (turned q c) ≡ false) → p ≡ 0
  pub blocks : (t s : ℕ) → read_block (frames (turned p c)) t s ≡ read_block (frames c) t s

abbrev pub Aligning : (List Bool → ℕ) → Type 0
Aligning place = (c : List Bool) → Aligned c (place c)
