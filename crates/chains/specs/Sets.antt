-- Sets of blocks, as tests, and lists of places.
use Rattle.std.specs.Prelude.{Bool, false, ◌&&◌, ◌||◌, List, [], ◌∷◌, slice_index_or}
use Rattle.disk.specs.Geometry.{Place, same_place, legal, index_of}

-- the place stands in the list
unfoldable pub among : List Place → Place → Bool
among [] p = false
among (q ∷ qs) p = same_place q p || among qs p

-- the block that a table of flags in place order marks
unfoldable pub holds : List Bool → Place → Bool
holds flags p = legal p && slice_index_or flags (index_of p) false

abbrev pub nothing : Place → Bool
nothing p = false

-- a set and one block more; what is no block stays out
abbrev pub with_place : Place → (Place → Bool) → Place → Bool
with_place q s p = (legal q && same_place q p) || s p
