-- A block table: one entry for each block, in place order, and perhaps more that no call sees.
use Rattle.std.specs.Prelude.{◌≡◌, ℕ, cond, List, ◌++◌, length, drop, replicate, Ok, Err, Result, nat_lt, slice_index_or, slice_set}
use Rattle.disk.specs.declared.cause.Cause.TheVariants.{NoSuchBlock, ShortBuffer}
use Rattle.disk.specs.declared.layer.Layer.TheVariants.{Sector}
use Rattle.disk.specs.declared.refusal.Refusal.{Refusal}
use Rattle.disk.specs.Geometry.{Place, legal, index_of}
use Rattle.disk.specs.Refusals.{refusal, by_caller}

-- what a table of n entries answers at p, where there is room for every block
abbrev pub with_room : {Y : Type 0} → ℕ → Result Y Refusal → Result Y Refusal
with_room n r = cond (nat_lt n 683) (Err (by_caller ShortBuffer)) r

abbrev pub at_block : {Y : Type 0} → Place → Y → Result Y Refusal
at_block p y = cond (legal p) (Ok y) (Err (refusal NoSuchBlock Sector p))

abbrev pub put_result : ℕ → Place → Result Unit Refusal
put_result n p = with_room n (at_block p tt)

abbrev pub fill_result : ℕ → Result Unit Refusal
fill_result n = with_room n (Ok tt)

module _ {X : Type 0} where
  -- the answer of a look-up, whatever a list is said to hold past its end
  abbrev pub got : List X → Place → Result X Refusal → Type 0
  got table p r = (d : X) → r ≡ with_room (length table) (at_block p (slice_index_or table (index_of p) d))

  abbrev pub put_table : List X → Place → X → List X
  put_table table p x = cond (nat_lt (length table) 683) table (cond (legal p) (slice_set table (index_of p) x) table)

  abbrev pub filled : List X → X → List X
  filled table x = cond (nat_lt (length table) 683) table (replicate 683 x ++ drop 683 table)
