-- The blocks of a D64 image, in place order, and which of them may be written.
use Rattle.std.specs.Prelude.{ℕ, ◌*◌, Bool, cond, ◌&&◌, List, length, take, drop, Ok, Err, Result, ◌==◌}
use Rattle.disk.specs.declared.cause.Cause.TheVariants.{NoHeader, NoSuchBlock, Protected, BadImage}
use Rattle.disk.specs.declared.layer.Layer.TheVariants.{Image}
use Rattle.disk.specs.declared.refusal.Refusal.{Refusal}
use Rattle.disk.specs.Geometry.{Place, legal, index_of}
use Rattle.disk.specs.Refusals.{refusal}
use Rattle.sector.specs.Source.{Reading, bytes, fault, fault_at}
use Rattle.sector.specs.Device.{Answer, free, barred}

-- where a block begins in the image
abbrev pub offset_of : Place → ℕ
offset_of p = 256 * index_of p

-- what an image of these bytes gives at p: off the disk there is no block, and of a wrong length no block has a header
unfoldable pub block_at : List ℕ → Place → Reading
block_at xs p = cond (legal p) (cond (length xs == 174848) (bytes (take 256 (drop (offset_of p) xs))) (fault NoHeader)) (fault NoSuchBlock)

-- where that block begins
unfoldable pub begin_of : List ℕ → Place → Result ℕ Refusal
begin_of xs p = cond (legal p) (cond (length xs == 174848) (Ok (offset_of p)) (Err (fault_at NoHeader p))) (Err (fault_at NoSuchBlock p))

-- the same of a block that may be written
unfoldable pub writable_at : List ℕ → Bool → Place → Result ℕ Refusal
writable_at xs protected p = cond (protected && legal p) (Err (fault_at Protected p)) (begin_of xs p)

-- whether the block at p of such an image may be written: off the disk there is none, of a protected image no block may be, and of a wrong length no block has a header
unfoldable pub answers_of : List ℕ → Bool → Place → Answer
answers_of xs protected p = cond (legal p) (cond protected (barred Protected) (cond (length xs == 174848) free (barred NoHeader))) (barred NoSuchBlock)

-- the check of an image by its length
abbrev pub checked_length : ℕ → Result Unit Refusal
checked_length n = cond (n == 174848) (Ok tt) (Err (refusal BadImage Image (0, 0)))
