-- What a look at each track says of one of them.
use Rattle.std.specs.Prelude.{◌≡◌, ℕ, zero, suc, ◌+◌, ◌<◌, ◌≤◌, Bool, true, ◌&&◌, refl}
use Rattle.std.proofs.Common.{arith, sym, ap, ◌∙◌, inl, inr}
use Rattle.std.proofs.lemmas.Bool.{and_parts, cases_eq}
use Rattle.g64.specs.Layout.{each}

-- where all of them pass, each does
pub each_one : (test : ℕ → Bool) (n k t : ℕ) → each test n k ≡ true → k ≤ t → t < k + n → test t ≡ true
unfolding each
each_one test zero k t h l u = absurd (omega arith)
each_one test (suc n) k t h l u = elim (cases_eq k t) [
  | inl e ↦ ap test (sym e) ∙ (and_parts (test k) (each test n (k + 1)) h).0
  | inr e ↦ each_one test n (k + 1) t (and_parts (test k) (each test n (k + 1)) h).1 (omega arith) (omega arith)
]

-- two tests that agree on each of them
pub each_same : (p q : ℕ → Bool) (n k : ℕ) → ((i : ℕ) → k ≤ i → i < k + n → p i ≡ q i) → each p n k ≡ each q n k
unfolding each
each_same p q zero k h = refl
each_same p q (suc n) k h =
    let r = each_same p q n (k + 1) (λ i a b. h i (omega arith) (omega arith)) in
    λ i. h k (omega arith) (omega arith) i && r i
