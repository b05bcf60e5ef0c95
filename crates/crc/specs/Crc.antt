-- CRC-32, as in zip and PNG files: polynomials over bits are divided, lowest bit first.
use Rattle.std.specs.Prelude.{ℕ, ◌/◌, ◌%◌, cond, List, ◌==◌, bit_xor}
use Rattle.std.specs.Fn.{iterate}
use Rattle.std.specs.List.{fold}

-- the register after one more bit
abbrev pub shifted : ℕ → ℕ
shifted r = cond (r % 2 == 1) (bit_xor (r / 2) 0xedb8_8320) (r / 2)

-- the register after one more byte
unfoldable pub fed : ℕ → ℕ → ℕ
fed r b = iterate shifted 8 (bit_xor r b)

unfoldable pub crc32 : List ℕ → ℕ
crc32 bs = bit_xor (fold fed 0xffff_ffff bs) 0xffff_ffff
