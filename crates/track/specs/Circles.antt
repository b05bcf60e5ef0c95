-- Tracks as circles of bits, cut into frames by syncs.
use Rattle.std.specs.Prelude.{ℕ, zero, suc, ◌-◌, Bool, true, false, cond, not, ◌&&◌, List, [], ◌∷◌, ◌++◌, length, take, drop, slice_index_or}
use Rattle.gcr.specs.Bits.{bits_of}

-- the circle of n bits that bytes hold
abbrev pub circle_of : ℕ → List ℕ → List Bool
circle_of n bs = take n (bits_of bs)

-- a circle from place k on
abbrev pub turned : {X : Type 0} → ℕ → List X → List X
turned k c = drop k c ++ take k c

-- the first n bits are ones
abbrev pub ones : ℕ → List Bool → Bool
ones zero l = true
ones (suc n) [] = false
ones (suc n) (b ∷ l) = b && ones n l

-- the bits before the first ten ones in a row
abbrev pub before : List Bool → List Bool
before [] = []
before (b ∷ l) = cond (ones 10 (b ∷ l)) [] (b ∷ before l)

-- the circle begins right after a sync: with a zero, and ten ones at its end
abbrev pub start : List Bool → Bool
start a = not (slice_index_or a 0 false) && ones 10 (drop (length a - 10) a)

-- the frames that begin at the n places from p on
abbrev pub frames_from : List Bool → ℕ → ℕ → List (List Bool)
frames_from c p zero = []
frames_from c p (suc n) = cond (start (turned p c)) (before (turned p c) ∷ frames_from c (suc p) n) (frames_from c (suc p) n)

-- all frames, in order
abbrev pub frames : List Bool → List (List Bool)
frames c = frames_from c 0 (length c)

-- ten ones
abbrev pub tens : List Bool
tens = true ∷ true ∷ true ∷ true ∷ true ∷ true ∷ true ∷ true ∷ true ∷ true ∷ []

abbrev pub push : Bool → List (List Bool) → List (List Bool)
push b [] = (b ∷ []) ∷ []
push b (f ∷ fs) = (b ∷ f) ∷ fs

-- bits cut at their syncs in one pass; the flag says that a sync is being passed
abbrev pub cut : Bool → List Bool → List (List Bool)
cut true [] = []
cut true (true ∷ l) = cut true l
cut true (false ∷ l) = push false (cut false l)
cut false [] = [] ∷ []
cut false (b ∷ l) = cond (ones 10 (b ∷ l)) ([] ∷ cut true l) (push b (cut false l))
