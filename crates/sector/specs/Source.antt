-- What a source of blocks means, and what reading it answers.
use Rattle.std.specs.Prelude.{◌≡◌, ℕ, cond, List, length, Ok, Err, Result, ◌==◌}
use Rattle.disk.specs.declared.cause.Cause.{Cause}
use Rattle.disk.specs.declared.cause.Cause.TheVariants.{NoSuchBlock}
use Rattle.disk.specs.declared.layer.Layer.TheVariants.{Track, Sector}
use Rattle.disk.specs.declared.refusal.Refusal.{Refusal}
use Rattle.disk.specs.Bytes.{Bytes}
use Rattle.disk.specs.Causes.{number_of}
use Rattle.disk.specs.Geometry.{Place, legal}
use Rattle.disk.specs.Refusals.{refusal}

-- what a block holds: its bytes, or the cause by which it is refused
pub data Reading : Type 0 where
  bytes : List ℕ → Reading
  fault : Cause → Reading

-- what every block of a disk holds
abbrev pub Disk : Type 0
Disk = Place → Reading

-- a block has 256 bytes
abbrev pub Whole : Reading → Type 0
Whole (bytes b) = (length b ≡ 256) × Bytes b
Whole (fault c) = Unit {0}

-- a track without frames is the track's fault, any other the sector's
abbrev pub fault_at : Cause → Place → Refusal
fault_at c p = refusal c (cond (number_of c == 21) Track Sector) p

abbrev pub reading : Place → Reading → Result (List ℕ) Refusal
reading p (bytes b) = Ok b
reading p (fault c) = Err (fault_at c p)

-- what reading the block at p gives
unfoldable pub loaded : Disk → Place → Result (List ℕ) Refusal
loaded d p = cond (legal p) (reading p (d p)) (Err (refusal NoSuchBlock Sector p))

-- the answer of a read
abbrev pub answered : Result (List ℕ) Refusal → Result Unit Refusal
answered (Ok b) = Ok tt
answered (Err e) = Err e

-- the lent block after a read
abbrev pub lent : Result (List ℕ) Refusal → List ℕ → List ℕ
lent (Ok b) old = b
lent (Err e) old = old

-- what follows an accepted step; a refusal rises unaltered
abbrev pub and_then : {X Y : Type 0} → Result X Refusal → (X → Result Y Refusal) → Result Y Refusal
and_then (Ok x) k = k x
and_then (Err e) k = Err e
