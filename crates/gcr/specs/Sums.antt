-- The checksum of a block.
use Rattle.std.specs.Prelude.{ℕ, List, fold, bit_xor}

-- the exclusive-or of all bytes
abbrev pub xor_all : List ℕ → ℕ
xor_all bs = fold bit_xor 0 bs
