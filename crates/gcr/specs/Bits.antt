-- Numbers as bits, the highest first.
use Rattle.std.specs.Prelude.{ℕ, zero, suc, ◌+◌, ◌*◌, ◌/◌, ◌%◌, ◌^◌, Bool, cond, List, [], ◌∷◌, fold, ◌==◌}
use Rattle.std.specs.List.{flat_map}

-- bit k of a number, the lowest being bit 0
abbrev pub bit : ℕ → ℕ → Bool
bit k v = v / 2 ^ k % 2 == 1

-- the lowest n bits of a number, the highest first
abbrev pub bits : ℕ → ℕ → List Bool
bits zero v = []
bits (suc k) v = bit k v ∷ bits k v

-- the bits of bytes, in order
abbrev pub bits_of : List ℕ → List Bool
bits_of bs = flat_map (bits 8) bs

-- a number with one bit more at the low end
abbrev pub and_bit : ℕ → Bool → ℕ
and_bit n b = n * 2 + cond b 1 0

-- the number that bits write
abbrev pub value : List Bool → ℕ
value bs = fold and_bit 0 bs
