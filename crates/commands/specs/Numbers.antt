-- The number that a text of decimal digits writes.
use Rattle.std.specs.Prelude.{ℕ, ◌+◌, ◌-◌, ◌*◌, cond, ◌&&◌, List, [], ◌∷◌, length, Some, None, Option, nat_lt}
use Rattle.std.specs.Str.{all_ascii_digits}

-- digits from the left, after the number so far
abbrev pub digits_after : ℕ → List ℕ → ℕ
digits_after n [] = n
digits_after n (c ∷ cs) = digits_after (10 * n + (c - 48)) cs

-- one digit or more, and a number that a byte holds
unfoldable pub byte_number : List ℕ → Option ℕ
byte_number cs = cond (all_ascii_digits cs && (nat_lt 0 (length cs) && nat_lt (digits_after 0 cs) 256)) (Some (digits_after 0 cs)) None
