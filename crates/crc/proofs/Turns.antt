-- A fold over so many numbers that looks at none of them.
use Rattle.std.proofs.Common.{◌≡◌, ℕ, zero, suc, ◌+◌, fold, refl}
use Rattle.std.specs.Fn.{iterate}
use Rattle.std.specs.List.{range_with_len}

pub fold_turns : {A : Type 0} (h : A → A) (x : A) (k n : ℕ) → fold (λ y _. h y) x (range_with_len k n) ≡ iterate h n x
fold_turns h x k zero = refl
fold_turns h x k (suc n) = fold_turns h (h x) (k + 1) n
