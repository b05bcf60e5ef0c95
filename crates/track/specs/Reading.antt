-- Reading a block from the frames of its track.
use Rattle.std.specs.Prelude.{ℕ, Bool, false, cond, ◌||◌, List, [], ◌∷◌, length, take, drop, Some, None, Ok, Err, filter, Option, Result, ◌==◌, nat_lt, slice_index}
use Rattle.disk.specs.declared.cause.Cause.{Cause}
use Rattle.disk.specs.declared.cause.Cause.TheVariants.{NoHeader, NoFrame, NoData, BadChecksum, BadCode, BadHeader, TwoHeaders, ShortFrame}
use Rattle.gcr.specs.Codes.{bytes_in}
use Rattle.gcr.specs.Sums.{xor_all}
use Rattle.track.specs.Headers.{byte_at, header, sound_head, unsound_head}

-- the frame that holds a block's data, or the cause by which it is refused
pub data Sought : Type 0 where
  at : List Bool → Sought
  missing : Cause → Sought

abbrev pub any : {X : Type 0} → (X → Bool) → List X → Bool
any p [] = false
any p (x ∷ xs) = p x || any p xs

abbrev pub head_or : {X : Type 0} → X → List X → X
head_or d [] = d
head_or d (x ∷ xs) = x

-- each with the one that follows it, and the last with `first`
abbrev pub linked : {X : Type 0} → X → List X → List (X × X)
linked first [] = []
linked first (x ∷ xs) = (x, head_or first xs) ∷ linked first xs

-- each with its successor on the circle
abbrev pub pairs : {X : Type 0} → List X → List (X × X)
pairs [] = []
pairs (x ∷ xs) = linked x (x ∷ xs)

-- by the frames whose sound header names the block, each with its successor, and by whether an unsound one does
abbrev pub from_hits : List (List Bool × List Bool) → Bool → Sought
from_hits [] u = missing (cond u BadHeader NoHeader)
from_hits (p ∷ []) u = at p.1
from_hits (p ∷ q ∷ ps) u = missing TwoHeaders

abbrev pub hits : ℕ → ℕ → List (List Bool × List Bool) → List (List Bool × List Bool)
hits t s ps = filter (λ p. sound_head t s (header p.0)) ps

-- the frame that follows the one sound header of t/s
abbrev pub sought : List (List Bool) → ℕ → ℕ → Sought
sought [] t s = missing NoFrame
sought (f ∷ fs) t s = from_hits (hits t s (pairs (f ∷ fs))) (any (λ g. unsound_head t s (header g)) (f ∷ fs))

-- 257 bytes: a block, and its checksum
abbrev pub summed : Option (List ℕ) → Result (List ℕ) Cause
summed None = Err BadCode
summed (Some bs) = cond (xor_all (take 256 bs) == slice_index bs 256) (Ok (take 256 bs)) (Err BadChecksum)

abbrev pub is_data : Option ℕ → Bool
is_data None = false
is_data (Some b) = b == 7

-- what a data frame holds: $07, the block, its checksum, and at least two bytes more
abbrev pub data_of : List Bool → Result (List ℕ) Cause
data_of f = cond (is_data (byte_at f 0)) (cond (nat_lt (length f) 2600) (Err ShortFrame) (summed (bytes_in 257 (drop 10 f)))) (Err NoData)

abbrev pub sought_data : Sought → Result (List ℕ) Cause
sought_data (at f) = data_of f
sought_data (missing c) = Err c

-- block t/s of the frames of track t
abbrev pub read_block : List (List Bool) → ℕ → ℕ → Result (List ℕ) Cause
read_block fs t s = sought_data (sought fs t s)

-- the answer of a read, and the lent block after it
abbrev pub reading_result : Result (List ℕ) Cause → Result Unit Cause
reading_result (Ok b) = Ok tt
reading_result (Err c) = Err c

abbrev pub reading_buffer : Result (List ℕ) Cause → List ℕ → List ℕ
reading_buffer (Ok b) old = b
reading_buffer (Err c) old = old
