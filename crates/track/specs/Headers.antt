-- What a frame says as a header.
use Rattle.std.specs.Prelude.{ℕ, ◌*◌, Bool, false, cond, not, ◌&&◌, List, drop, Some, None, Option, ◌==◌, bit_xor}
use Rattle.gcr.specs.Codes.{coded, if_some}

-- coded byte k of a frame
unfoldable pub byte_at : List Bool → ℕ → Option ℕ
byte_at f k = coded (drop (k * 10) f)

-- six bytes as a header, $08 first: whether its checksum is the exclusive-or of the other four, and its track and sector
abbrev pub head_of : Option ℕ → Option ℕ → Option ℕ → Option ℕ → Option ℕ → Option ℕ → Option (Bool × (ℕ × ℕ))
head_of o0 o1 o2 o3 o4 o5 =
    if_some o0 (λ mark. if_some o1 (λ sum. if_some o2 (λ sector. if_some o3 (λ track. if_some o4 (λ id2. if_some o5 (λ id1.
    cond (mark == 8) (Some ((sum == bit_xor (bit_xor (bit_xor sector track) id2) id1), (track, sector))) None))))))

-- what a frame says as a header
abbrev pub header : List Bool → Option (Bool × (ℕ × ℕ))
header f = head_of (byte_at f 0) (byte_at f 1) (byte_at f 2) (byte_at f 3) (byte_at f 4) (byte_at f 5)

abbrev pub place_is : ℕ → ℕ → ℕ × ℕ → Bool
place_is t s p = p.0 == t && p.1 == s

-- a sound header that names t/s
abbrev pub sound_head : ℕ → ℕ → Option (Bool × (ℕ × ℕ)) → Bool
sound_head t s None = false
sound_head t s (Some h) = h.0 && place_is t s h.1

-- an unsound one
abbrev pub unsound_head : ℕ → ℕ → Option (Bool × (ℕ × ℕ)) → Bool
unsound_head t s None = false
unsound_head t s (Some h) = not h.0 && place_is t s h.1
