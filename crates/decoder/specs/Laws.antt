-- Blocks give bits that read back as the same blocks.
use Rattle.std.specs.Prelude.{◌≡◌, ℕ, Bool, cond, List, length, Ok}
use Rattle.disk.specs.Bytes.{Bytes}
use Rattle.track.specs.Circles.{frames}
use Rattle.track.specs.Headers.{place_is}
use Rattle.track.specs.Laying.{laid_on}
use Rattle.track.specs.Reading.{read_block}
use Rattle.track.specs.Room.{room_for, FreeAt}
use Rattle.laying.specs.Laws.{SameSyncs}

-- the circle d is c with block t/s written: it reads as b, every other block and every write answer is as before, and so is every sync
pub record Written (c d : List Bool) (t s : ℕ) (b : List ℕ) : Type 0 where
  pub blocks : (u v : ℕ) → read_block (frames d) u v ≡ cond (place_is t s (u, v)) (Ok b) (read_block (frames c) u v)
  pub rooms : (u v : ℕ) → room_for (frames d) u v ≡ room_for (frames c) u v
  pub syncs : SameSyncs c d

-- the bits of a block, laid where its data goes, write it, on every circle
abbrev pub Writing : (List ℕ → List Bool) → Type 0
Writing coded = (c : List Bool) (t s p : ℕ) (b : List ℕ) → length b ≡ 256 → Bytes b → FreeAt c t s p → Written c (laid_on p (coded b) c) t s b
