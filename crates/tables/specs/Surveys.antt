-- How each block of a disk reads.
use Rattle.std.specs.Prelude.{ℕ, zero, suc, cond, List, [], ◌∷◌, ◌++◌, length, drop, Ok, Err, Result, nat_lt}
use Rattle.disk.specs.declared.refusal.Refusal.{Refusal}
use Rattle.disk.specs.Causes.{number_of}
use Rattle.disk.specs.Layers.{layer_number}
use Rattle.disk.specs.Geometry.{track_at, sector_at}
use Rattle.sector.specs.Source.{Disk, loaded}
use Rattle.tables.specs.declared.survey.Finding.{Finding}

-- number and layer of a refusal, or zeros
abbrev pub found : Result (List ℕ) Refusal → Finding
found (Ok b) = record { number = 0; layer = 0 }
found (Err r) = record { number = number_of r.cause; layer = layer_number r.layer }

-- how the block of a number reads
unfoldable pub found_at : Disk → ℕ → Finding
found_at d n = found (loaded d (track_at n, sector_at n))

-- the first n blocks in place order
unfoldable pub found_first : Disk → ℕ → List Finding
found_first d zero = []
found_first d (suc n) = found_first d n ++ found_at d n ∷ []

-- the table after a survey
abbrev pub surveyed : Disk → List Finding → List Finding
surveyed d old = cond (nat_lt (length old) 683) old (found_first d 683 ++ drop 683 old)
