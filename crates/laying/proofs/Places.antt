-- The places of a circle, taken one by one.
use Rattle.std.proofs.Common.{◌≡◌, ℕ, suc, ◌+◌, ◌-◌, ◌<◌, cond, eqb, leb, arith}
use Rattle.std.proofs.lemmas.Bool.Decides.{nat_tests}

-- place p of a circle of n bits, k places on
abbrev pub around : ℕ → ℕ → ℕ → ℕ
around n p k = cond (leb n (p + k)) (p + k - n) (p + k)

pub around_less : (n p k : ℕ) → p < n → k < n → around n p k < n
around_less n p k h g = grind (arith, nat_tests)

pub around_more : (n p k j : ℕ) → p < n → k < n → j ≡ k + 1 → around n p j ≡ cond (eqb (suc (around n p k)) n) 0 (suc (around n p k))
around_more n p k j h g e = grind (arith, nat_tests)
