-- What holds of frames and blocks on every circle.
use Rattle.std.specs.Prelude.{◌≡◌, ℕ, ◌≤◌, Bool, true, List, length}
use Rattle.track.specs.Circles.{turned, frames, start, cut}
use Rattle.track.specs.Reading.{read_block}

-- where a circle begins does not matter to its frames but for which comes first, nor to its blocks at all
abbrev pub Turning : (ℕ → List Bool → List Bool) → Type 0
Turning turn =
    (k : ℕ) (c : List Bool) → k ≤ length c
    → ((j : ℕ) × (j ≤ length (frames c)) × (frames (turn k c) ≡ turned j (frames c)))
    × ((t s : ℕ) → read_block (frames (turn k c)) t s ≡ read_block (frames c) t s)

-- a circle that begins right after a sync has the frames into which its syncs cut it, when one is being passed at its begin
abbrev pub Cutting : Bool → Type 0
Cutting passing = (c : List Bool) → start c ≡ true → frames c ≡ cut passing c
