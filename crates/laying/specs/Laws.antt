-- What holds when the bits of one frame are replaced by others.
use Rattle.std.specs.Prelude.{◌≡◌, ℕ, ◌≤◌, Bool, true, false, List, ◌∷◌, length, slice_index_or}
use Rattle.track.specs.Circles.{turned, start, before, frames}
use Rattle.track.specs.Places.{last_or}

-- no sync came, went or changed: frames begin at the same places of d as of c, and have as many bits there
pub record SameSyncs (c d : List Bool) : Type 0 where
  pub size : length d ≡ length c
  pub begins : (q : ℕ) → start (turned q d) ≡ start (turned q c)
  pub ends : (q : ℕ) → start (turned q c) ≡ true → length (before (turned q d)) ≡ length (before (turned q c))

-- bits that can stand as a frame: they begin and end with a zero, and hold no ten ones in a row
pub record Framed (x : List Bool) : Type 0 where
  pub begins : slice_index_or x 0 true ≡ false
  pub ends : last_or true x ≡ false
  pub holds : before x ≡ x

-- where a frame begins at place p, bits that can stand as one, as many as it has, are its bits after they were put there; every sync and every other frame stays
abbrev pub Replacing : (ℕ → List Bool → List Bool → List Bool) → Type 0
Replacing put =
    (c x : List Bool) (p : ℕ) → p ≤ length c → start (turned p c) ≡ true → Framed x → length x ≡ length (before (turned p c))
    → SameSyncs c (put p x c)
    × ((f : List Bool) (fs : List (List Bool)) → frames (turned p c) ≡ f ∷ fs → frames (turned p (put p x c)) ≡ x ∷ fs)
