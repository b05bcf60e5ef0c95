-- The place order in its own words: by track, then by sector, each block once.
use Rattle.std.specs.Prelude.{◌≡◌, ℕ, ◌<◌, Bool, true, ◌&&◌, ◌||◌, Some, ◌==◌, nat_lt}
use Rattle.disk.specs.Geometry.{Place, legal, placed_at}

-- p stands before q
abbrev pub earlier : Place → Place → Bool
earlier p q = nat_lt p.0 q.0 || (p.0 == q.0 && nat_lt p.1 q.1)

-- the numbers that an index gives are the place order
pub record PlaceOrder (index : Place → ℕ) : Type 0 where
  pub within : (p : Place) → legal p ≡ true → index p < 683
  pub ordered : (p q : Place) → legal p ≡ true → legal q ≡ true → nat_lt (index p) (index q) ≡ earlier p q
  pub found_again : (p : Place) → legal p ≡ true → placed_at (index p) ≡ Some p
  pub each_filled : (n : ℕ) → n < 683 → (p : Place) × (placed_at n ≡ Some p) × (legal p ≡ true) × (index p ≡ n)
