-- The layout of a G64 file: a head, a table of offsets, and the tracks.
use Rattle.std.specs.Prelude.{ℕ, zero, suc, ◌+◌, ◌-◌, ◌*◌, Bool, true, cond, ◌&&◌, ◌||◌, List, [], ◌∷◌, ◌++◌, length, take, codes, Some, None, Option, ◌==◌, nat_le, slice_index}
use Rattle.std.specs.Str.{bytes_eq}
use Rattle.std.specs.declared.ops.Range.{Range}

-- two bytes as a number, low byte first; past the file's end stand zeros
unfoldable pub number16 : List ℕ → ℕ → ℕ
number16 f k = slice_index f k + 256 * slice_index f (k + 1)

-- four bytes
unfoldable pub number32 : List ℕ → ℕ → ℕ
number32 f k = number16 f k + 65536 * number16 f (k + 2)

-- where the offset of track t stands: entry 2(t - 1) of a table that begins at byte 12; between two tracks stands a half track
abbrev pub entry_of : ℕ → ℕ
entry_of t = 12 + 4 * (2 * (t - 1))

-- where track t begins; 0 if it has no bits
unfoldable pub offset_of : List ℕ → ℕ → ℕ
offset_of f t = number32 f (entry_of t)

-- how many bytes it has; they stand after the two bytes that say so
unfoldable pub length_of : List ℕ → ℕ → ℕ
length_of f t = number16 f (offset_of f t)

-- the byte after it
abbrev pub end_of : List ℕ → ℕ → ℕ
end_of f t = offset_of f t + 2 + length_of f t

-- where it lies, with its two bytes of length; nowhere if it has no bits
abbrev pub extent_of : List ℕ → ℕ → Option (Range ℕ)
extent_of f t = cond (offset_of f t == 0) None (Some (record { start = offset_of f t; end = end_of f t }))

-- the largest size of a track, as the head has it
abbrev pub largest : List ℕ → ℕ
largest f = number16 f 10

-- "GCR-1541", version 0, 84 entries
abbrev pub head : List ℕ
head = codes "GCR-1541" ++ 0 ∷ 84 ∷ []

unfoldable pub headed : List ℕ → Bool
headed f = bytes_eq head (take 10 f)

-- track t, if it has bits, lies after the tables and inside the file, and is not too long
unfoldable pub inside : List ℕ → ℕ → Bool
inside f t = offset_of f t == 0 || (nat_le 684 (offset_of f t) && (nat_le (length_of f t) (largest f) && nat_le (end_of f t) (length f)))

-- tracks t and u, if both have bits, do not overlap
unfoldable pub apart : List ℕ → ℕ → ℕ → Bool
apart f t u = offset_of f t == 0 || (offset_of f u == 0 || (nat_le (end_of f t) (offset_of f u) || nat_le (end_of f u) (offset_of f t)))

-- the same of a track that lies at x, and of one that lies at y or has no bits
abbrev pub apart_from : Range ℕ → Option (Range ℕ) → Bool
apart_from x None = true
apart_from x (Some y) = nat_le x.end y.start || nat_le y.end x.start

-- n tracks from t on pass
unfoldable pub each : (ℕ → Bool) → ℕ → ℕ → Bool
each test zero t = true
each test (suc n) t = test t && each test n (t + 1)

-- all tracks lie inside
abbrev pub all_inside : List ℕ → Bool
all_inside f = each (inside f) 35 1

-- track t and no later one overlap
unfoldable pub clear : List ℕ → ℕ → Bool
clear f t = each (apart f t) (35 - t) (t + 1)

-- no two tracks overlap
abbrev pub all_clear : List ℕ → Bool
all_clear f = each (clear f) 35 1

-- the file is an image: 12 bytes of head, 84 offsets, as many speeds, and tracks that keep to their room
unfoldable pub valid : List ℕ → Bool
valid f = nat_le 684 (length f) && (headed f && (nat_le (largest f) 7928 && (all_inside f && all_clear f)))
