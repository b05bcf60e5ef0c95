-- Bytes as hexadecimal digits.
use Rattle.std.specs.Prelude.{ℕ, ◌+◌, ◌/◌, ◌%◌, cond, List, [], ◌∷◌, ◌++◌, nat_lt}
use Rattle.std.specs.List.{flat_map}

-- the lowercase digit of a number below 16
abbrev pub hex_digit : ℕ → ℕ
hex_digit n = cond (nat_lt n 10) (48 + n) (87 + n)

abbrev pub hex_byte : ℕ → List ℕ
hex_byte b = hex_digit (b / 16) ∷ hex_digit (b % 16) ∷ []

-- a blank and a byte
abbrev pub next_byte : ℕ → List ℕ
next_byte b = 32 ∷ hex_byte b

-- bytes with a blank between any two
unfoldable pub hex_line : List ℕ → List ℕ
hex_line [] = []
hex_line (b ∷ bs) = hex_byte b ++ flat_map next_byte bs
