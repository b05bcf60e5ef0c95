-- Tracks, sectors and the 683 blocks in place order.
use Rattle.std.specs.Prelude.{ℕ, ◌+◌, ◌-◌, ◌*◌, ◌/◌, ◌%◌, Bool, cond, ◌&&◌, Some, None, Option, ◌==◌, nat_le, nat_lt}

-- a place: track and sector
abbrev pub Place : Type 0
Place = ℕ × ℕ

-- two places are the same
abbrev pub same_place : Place → Place → Bool
same_place p q = p.0 == q.0 && p.1 == q.1

-- how many sectors a track has; 0 where there is no such track
abbrev pub sectors_on : ℕ → ℕ
sectors_on t = cond (nat_lt t 1) 0 (cond (nat_le t 17) 21 (cond (nat_le t 24) 19 (cond (nat_le t 30) 18 (cond (nat_le t 35) 17 0))))

-- the speed zone of a track
abbrev pub zone_of : ℕ → Option ℕ
zone_of t = cond (nat_lt t 1) None (cond (nat_le t 17) (Some 3) (cond (nat_le t 24) (Some 2) (cond (nat_le t 30) (Some 1) (cond (nat_le t 35) (Some 0) None))))

-- the disk has a block there
unfoldable pub legal : Place → Bool
legal p = nat_lt p.1 (sectors_on p.0)

-- how many blocks stand on the tracks before t
abbrev pub blocks_before : ℕ → ℕ
blocks_before t = cond (nat_le t 17) ((t - 1) * 21) (cond (nat_le t 24) (357 + (t - 18) * 19) (cond (nat_le t 30) (490 + (t - 25) * 18) (598 + (t - 31) * 17)))

-- a block's number in place order, 0 to 682
unfoldable pub index_of : Place → ℕ
index_of p = blocks_before p.0 + p.1

-- the same, or none where there is no such block
unfoldable pub order_of : Place → Option ℕ
order_of p = cond (legal p) (Some (index_of p)) None

-- track and sector of the block of a number
abbrev pub track_at : ℕ → ℕ
track_at n = cond (nat_lt n 357) (n / 21 + 1) (cond (nat_lt n 490) ((n - 357) / 19 + 18) (cond (nat_lt n 598) ((n - 490) / 18 + 25) ((n - 598) / 17 + 31)))

abbrev pub sector_at : ℕ → ℕ
sector_at n = cond (nat_lt n 357) (n % 21) (cond (nat_lt n 490) ((n - 357) % 19) (cond (nat_lt n 598) ((n - 490) % 18) ((n - 598) % 17)))

-- the block of a number in place order, or none
unfoldable pub placed_at : ℕ → Option Place
placed_at n = cond (nat_lt n 683) (Some (track_at n, sector_at n)) None
