-- Fetching a track into bytes.
use Rattle.std.specs.Prelude.{ℕ, suc, ◌-◌, ◌*◌, ◌^◌, Bool, cond, ◌&&◌, List, [], ◌∷◌, ◌++◌, length, drop, Ok, Err, Result, ◌==◌, nat_le, nat_lt}
use Rattle.disk.specs.declared.cause.Cause.TheVariants.{NoSuchBlock, ShortBuffer}
use Rattle.disk.specs.declared.layer.Layer.TheVariants.{Track}
use Rattle.disk.specs.declared.refusal.Refusal.{Refusal}
use Rattle.disk.specs.Refusals.{refusal, by_caller}
use Rattle.gcr.specs.Bits.{and_bit}

-- bits into bytes, with k bits of the byte begun, which write n
abbrev pub packed : ℕ → ℕ → List Bool → List ℕ
packed k n [] = cond (k == 0) [] (n * 2 ^ (8 - k) ∷ [])
packed k n (b ∷ l) = cond (k == 7) (and_bit n b ∷ packed 0 0 l) (packed (suc k) (and_bit n b) l)

-- bits into bytes, the last filled with zeros
abbrev pub pack : List Bool → List ℕ
pack l = packed 0 0 l

-- the disk has the track
abbrev pub on_disk : ℕ → Bool
on_disk t = nat_le 1 t && nat_le t 35

-- what fetching track t into a buffer with so much room answers
abbrev pub fetch_result : (ℕ → List Bool) → ℕ → ℕ → Result ℕ Refusal
fetch_result c t n = cond (on_disk t) (cond (nat_lt n 8192) (Err (by_caller ShortBuffer)) (Ok (length (c t)))) (Err (refusal NoSuchBlock Track (t, 0)))

-- a list with its beginning written over
abbrev pub laid : {X : Type 0} → List X → List X → List X
laid new old = new ++ drop (length new) old

-- the buffer after it
abbrev pub fetch_buffer : (ℕ → List Bool) → ℕ → List ℕ → List ℕ
fetch_buffer c t old = cond (on_disk t) (cond (nat_lt (length old) 8192) old (laid (pack (c t)) old)) old
