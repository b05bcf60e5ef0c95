-- A name is clean where each of its bytes may stand in one.
use Rattle.std.proofs.Common.{◌≡◌, ℕ, not, ◌&&◌, List, [], ◌∷◌, refl, ap}
use Rattle.std.specs.List.{list_all}
use Rattle.directory.specs.Names.{barred, clean}

pub clean_all : (bs : List ℕ) → list_all (λ b. not (barred b)) bs ≡ clean bs
unfolding clean
clean_all [] = refl
clean_all (b ∷ bs) = ap (λ t. not (barred b) && t) (clean_all bs)
