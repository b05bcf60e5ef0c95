-- The free map in 18/0: a count and 24 bits for each track.
use Rattle.std.specs.Prelude.{ℕ, zero, suc, ◌+◌, ◌*◌, ◌/◌, ◌%◌, ◌^◌, Bool, true, cond, ◌&&◌, List, ◌==◌, slice_index}
use Rattle.std.specs.Bool.{beq}
use Rattle.disk.specs.Geometry.{Place, legal}
use Rattle.sound.specs.Owners.{Owners}

-- a block that nobody keeps
abbrev pub nobody : Owners → Place → Bool
nobody own p = legal p && own p == 0

-- the bit of a sector: sector 0 is the lowest of the first byte
abbrev pub map_bit : List ℕ → Place → Bool
map_bit b p = slice_index b (4 * p.0 + 1 + p.1 / 8) / 2 ^ (p.1 % 8) % 2 == 1

-- how many of the first n sectors of track t nobody keeps
unfoldable pub free_count : Owners → ℕ → ℕ → ℕ
free_count own t zero = 0
free_count own t (suc n) = free_count own t n + cond (nobody own (t, n)) 1 0

-- the first n bits of track t are 1 where nobody keeps the block, and 0 elsewhere: spare bits stand for no block
unfoldable pub bits_agree : List ℕ → Owners → ℕ → ℕ → Bool
bits_agree b own t zero = true
bits_agree b own t (suc n) = bits_agree b own t n && beq (map_bit b (t, n)) (nobody own (t, n))

unfoldable pub track_agrees : List ℕ → Owners → ℕ → Bool
track_agrees b own t = slice_index b (4 * t) == free_count own t 24 && bits_agree b own t 24

-- counts and bits of the tracks 1 to n
unfoldable pub map_agrees : List ℕ → Owners → ℕ → Bool
map_agrees b own zero = true
map_agrees b own (suc n) = map_agrees b own n && track_agrees b own (suc n)
