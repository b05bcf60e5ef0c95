-- What a device of blocks means beyond what it holds, and what writing it answers.
use Rattle.std.specs.Prelude.{ℕ, cond, ◌&&◌, List, is_ok, Ok, Err, Result}
use Rattle.disk.specs.declared.cause.Cause.{Cause}
use Rattle.disk.specs.declared.cause.Cause.TheVariants.{NoSuchBlock}
use Rattle.disk.specs.declared.layer.Layer.TheVariants.{Sector}
use Rattle.disk.specs.declared.refusal.Refusal.{Refusal}
use Rattle.disk.specs.Geometry.{Place, legal, same_place}
use Rattle.disk.specs.Refusals.{refusal}
use Rattle.sector.specs.Source.{Disk, bytes, fault_at}

-- the write answer of a block: it may be written, or the cause by which it may not
pub data Answer : Type 0 where
  free : Answer
  barred : Cause → Answer

-- the write answers of a disk's blocks
abbrev pub Answers : Type 0
Answers = Place → Answer

abbrev pub answering : Place → Answer → Result Unit Refusal
answering p free = Ok tt
answering p (barred c) = Err (fault_at c p)

-- what the question for the block at p, and writing it, answer
unfoldable pub allowed : Answers → Place → Result Unit Refusal
allowed a p = cond (legal p) (answering p (a p)) (Err (refusal NoSuchBlock Sector p))

-- what the block at q holds after the block at p was written: only an allowed write changes it, and only there
unfoldable pub written : Answers → Disk → Place → List ℕ → Disk
written a d p b q = cond (is_ok (allowed a p) && same_place q p) (bytes b) (d q)
