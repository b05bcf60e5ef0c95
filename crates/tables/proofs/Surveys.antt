-- One more block of a survey.
use Rattle.std.proofs.Common.{◌≡◌, ℕ, suc, ◌+◌, [], ◌∷◌, ◌++◌, refl, arith}
use Rattle.sector.specs.Source.{Disk}
use Rattle.tables.specs.Surveys.{found_at, found_first}

pub first_more : (d : Disk) (n : ℕ) → found_first d n ++ found_at d n ∷ [] ≡ found_first d (n + 1)
unfolding found_first
first_more d n = let e : n + 1 ≡ suc n = omega arith in rw e refl
