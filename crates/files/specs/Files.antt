-- A file's bytes.
use Rattle.std.specs.Prelude.{◌≡◌, ℕ, ◌+◌, ◌-◌, ◌*◌, ◌≤◌, cond, List, [], ◌∷◌, ◌++◌, length, take, drop, Ok, Err, Result, nat_lt, slice_index}
use Rattle.std.specs.List.{AllByRecursion}
use Rattle.disk.specs.declared.cause.Cause.TheVariants.{ShortBuffer}
use Rattle.disk.specs.declared.refusal.Refusal.{Refusal}
use Rattle.disk.specs.Geometry.{Place}
use Rattle.disk.specs.Refusals.{by_caller}
use Rattle.sector.specs.Source.{Disk, loaded, and_then}
use Rattle.chains.specs.declared.chain.Chain.{Chain}
use Rattle.files.specs.declared.extract.Extent.{Extent}
use Rattle.chains.specs.Chains.{Followed}
use Rattle.files.specs.Found.{file_chain}

-- the bytes that were read, none where the block is refused
abbrev pub held : Result (List ℕ) Refusal → List ℕ
held (Ok b) = b
held (Err e) = []

-- what a block of a file holds past its link
unfoldable pub block_data : Disk → Place → List ℕ
block_data d p = drop 2 (held (loaded d p))

unfoldable pub all_data : Disk → List Place → List ℕ
all_data d [] = []
all_data d (p ∷ ps) = block_data d p ++ all_data d ps

-- how many bytes a file has: 254 in each block but the last, whose second byte is the place of the last used one
abbrev pub size_of : Followed → ℕ
size_of f = 254 * (length f.0 - 1) + (slice_index f.1 1 - 1)

-- the bytes of a file
abbrev pub bytes_of : Disk → Followed → List ℕ
bytes_of d f = take (size_of f) (all_data d f.0)

-- the bytes of the closed file of a name
abbrev pub extracted : Disk → List ℕ → Result (List ℕ) Refusal
extracted d name = and_then (file_chain d name) (λ f. Ok (bytes_of d f))

-- how many bytes and blocks it has
abbrev pub measured : Disk → List ℕ → Result Extent Refusal
measured d name = and_then (file_chain d name) (λ f. Ok (record { bytes = length (bytes_of d f); blocks = length f.0 }))

abbrev pub fitting : ℕ → List ℕ → Result ℕ Refusal
fitting room bs = cond (nat_lt room (length bs)) (Err (by_caller ShortBuffer)) (Ok (length bs))

-- the answer of an extraction into a buffer with that much room
abbrev pub extract_answer : Disk → List ℕ → ℕ → Result ℕ Refusal
extract_answer d name room = and_then (extracted d name) (fitting room)

abbrev pub overlaid : Result (List ℕ) Refusal → List ℕ → List ℕ
overlaid (Ok bs) old = cond (nat_lt (length old) (length bs)) old (bs ++ drop (length bs) old)
overlaid (Err e) old = old

-- the buffer after it
abbrev pub extract_buffer : Disk → List ℕ → List ℕ → List ℕ
extract_buffer d name old = overlaid (extracted d name) old

-- the block can be read, and has 254 bytes past its link
abbrev pub Readable : Disk → Place → Type 0
Readable d p = (b : List ℕ) × (loaded d p ≡ Ok b) × (length b ≡ 256)

-- a chain that holds that many bytes, all its blocks but the last being full
pub record Fills (d : Disk) (c : Chain) (total : ℕ) : Type 0 where
  pub readable : AllByRecursion (Readable d) c.places.items
  pub low : 254 * (length c.places.items - 1) ≤ total
  pub high : total ≤ 254 * length c.places.items
