-- Five-bit codes of nibbles, ten-bit codes of bytes.
use Rattle.std.specs.Prelude.{◌≡◌, ℕ, zero, suc, ◌+◌, ◌*◌, ◌/◌, ◌%◌, ◌<◌, Bool, cond, List, [], ◌∷◌, ◌++◌, length, take, drop, Some, None, Option, ◌==◌, nat_le, slice_index}
use Rattle.std.specs.List.{flat_map}
use Rattle.gcr.specs.Bits.{bits, value}

-- the codes of the nibbles 0 to 15
abbrev pub codes : List ℕ
codes = 10 ∷ 11 ∷ 18 ∷ 19 ∷ 14 ∷ 15 ∷ 22 ∷ 23 ∷ 9 ∷ 25 ∷ 26 ∷ 27 ∷ 13 ∷ 29 ∷ 30 ∷ 21 ∷ []

abbrev pub code_of : ℕ → ℕ
code_of n = slice_index codes n

abbrev pub find_from : ℕ → ℕ → List ℕ → Option ℕ
find_from i c [] = None
find_from i c (x ∷ xs) = cond (c == x) (Some i) (find_from (suc i) c xs)

-- the nibble whose code it is
abbrev pub nibble_of : ℕ → Option ℕ
nibble_of c = find_from 0 c codes

-- go on with the value, if there is one
abbrev pub if_some : {A B : Type 0} → Option A → (A → Option B) → Option B
if_some None k = None
if_some (Some x) k = k x

-- the byte that a ten-bit code stands for
abbrev pub byte_of : ℕ → Option ℕ
byte_of c = if_some (nibble_of (c / 32)) (λ h. if_some (nibble_of (c % 32)) (λ l. Some (h * 16 + l)))

-- the ten-bit code of a byte, and its bits
abbrev pub ten_of : ℕ → ℕ
ten_of b = code_of (b / 16) * 32 + code_of (b % 16)

abbrev pub ten : ℕ → List Bool
ten b = bits 5 (code_of (b / 16)) ++ bits 5 (code_of (b % 16))

-- the byte that the first ten bits stand for
abbrev pub coded : List Bool → Option ℕ
coded bs = cond (nat_le 10 (length bs)) (byte_of (value (take 10 bs))) None

-- n coded bytes in a row
unfoldable pub bytes_in : ℕ → List Bool → Option (List ℕ)
bytes_in zero f = Some []
bytes_in (suc n) f = if_some (coded f) (λ b. if_some (bytes_in n (drop 10 f)) (λ bs. Some (b ∷ bs)))

-- four ten-bit numbers write these bits
abbrev pub Tens : List ℕ → List Bool → Type 0
Tens ns f = (f ≡ flat_map (bits 10) (slice_index ns 0 ∷ slice_index ns 1 ∷ slice_index ns 2 ∷ slice_index ns 3 ∷ [])) × (slice_index ns 0 < 1024) × (slice_index ns 1 < 1024) × (slice_index ns 2 < 1024) × (slice_index ns 3 < 1024)
