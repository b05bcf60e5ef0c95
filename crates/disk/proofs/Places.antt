-- The number of a block tells the block.
use Rattle.std.proofs.Common.{◌≡◌, ℕ, ◌<◌, true, ltb, Some, None, ap, ◌∙◌, arith}
use Rattle.std.proofs.lemmas.Bool.Decides.{nat_tests}
use Rattle.std.proofs.lemmas.Bool.{cond-true, lt-ltb}
use Rattle.disk.specs.Geometry.{Place, legal, index_of, track_at, sector_at, placed_at}
use Rattle.disk.specs.Order.{earlier, PlaceOrder}

pub index_within : (p : Place) → legal p ≡ true → index_of p < 683
unfolding legal index_of
index_within p h = grind (arith, nat_tests)

pub track_same : (p q : Place) → legal p ≡ true → legal q ≡ true → index_of p ≡ index_of q → p.0 ≡ q.0
unfolding legal index_of
track_same p q h k e = grind (arith, nat_tests)

pub sector_same : (p q : Place) → legal p ≡ true → legal q ≡ true → index_of p ≡ index_of q → p.1 ≡ q.1
unfolding legal index_of
sector_same p q h k e = grind (arith, nat_tests)

ordered : (p q : Place) → legal p ≡ true → legal q ≡ true → ltb (index_of p) (index_of q) ≡ earlier p q
unfolding legal index_of
ordered p q h k = grind (arith, nat_tests)

-- two blocks of one number are one block
pub place_same : (p q : Place) → legal p ≡ true → legal q ≡ true → index_of p ≡ index_of q → p ≡ q
place_same p q h k e =
    let a = track_same p q h k e in
    let b = sector_same p q h k e in
    λ i. (a i, b i)

module _ (n : ℕ) (h : n < 683) where
  pub legal_at : legal (track_at n, sector_at n) ≡ true
  unfolding legal
  legal_at = grind (arith, nat_tests)

  pub index_at : index_of (track_at n, sector_at n) ≡ n
  unfolding index_of
  index_at = grind (arith, nat_tests)

  pub filled_at : placed_at n ≡ Some (track_at n, sector_at n)
  unfolding placed_at
  filled_at = cond-true (ltb n 683) (Some (track_at n, sector_at n)) None (lt-ltb n 683 h)

found_again : (p : Place) → legal p ≡ true → placed_at (index_of p) ≡ Some p
found_again p h =
    let w = index_within p h in
    let e = place_same (track_at (index_of p), sector_at (index_of p)) p (legal_at (index_of p) w) h (index_at (index_of p) w) in
    filled_at (index_of p) w ∙ ap (λ (q : Place). Some q) e

pub place_order : PlaceOrder index_of
place_order = record {
  within = index_within;
  ordered = ordered;
  found_again = found_again;
  each_filled = λ n h. ((track_at n, sector_at n), filled_at n h, legal_at n h, index_at n h);
}
