-- Where on the circle the data of a block stands.
use Rattle.std.specs.Prelude.{ℕ, Bool, ◌&&◌, List, [], ◌∷◌}
use Rattle.track.specs.Circles.{turned, start, frames}
use Rattle.track.specs.Headers.{header, sound_head}

abbrev pub last_or : {X : Type 0} → X → List X → X
last_or d [] = d
last_or d (x ∷ xs) = last_or x xs

-- the data of t/s goes from place p on: a frame begins there, and the one before it, which is the last from p on round, is a sound header of t/s
abbrev pub data_place : List Bool → ℕ → ℕ → ℕ → Bool
data_place c t s p = start (turned p c) && sound_head t s (header (last_or [] (frames (turned p c))))
