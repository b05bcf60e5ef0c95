-- Who keeps each block.
use Rattle.std.specs.Prelude.{ℕ, cond, List, [], ◌∷◌, Ok, Err, Result, ◌==◌, slice_index}
use Rattle.disk.specs.declared.cause.Cause.TheVariants.{BadStructure}
use Rattle.disk.specs.declared.refusal.Refusal.{Refusal}
use Rattle.disk.specs.Geometry.{Place, same_place, legal, index_of}
use Rattle.disk.specs.Refusals.{by_volume}
use Rattle.chains.specs.Sets.{among}

-- the owner of each place: 0 nobody, 1 the system, 2 the directory, 3 plus its slot a file
abbrev pub Owners : Type 0
Owners = Place → ℕ

-- the owners by a table in place order; off the disk nobody keeps anything
unfoldable pub owner_at : List ℕ → Owners
owner_at table p = cond (legal p) (slice_index table (index_of p)) 0

-- the same owners, but for one block
abbrev pub given_to : Owners → Place → ℕ → Owners
given_to own p n q = cond (same_place q p) n (own q)

-- the owners once n keeps these blocks, none of which was kept; the block at `from` leads to the first of them
unfoldable pub claimed : Owners → List Place → Place → ℕ → Result Owners Refusal
claimed own [] from n = Ok own
claimed own (p ∷ ps) from n = cond (own p == 0) (claimed (given_to own p n) ps p n) (Err (by_volume BadStructure from))

-- before any file: 18/0 is the system's, and these blocks are the directory's
abbrev pub first_owners : List Place → Owners
first_owners dirs p = cond (same_place p (18, 0)) 1 (cond (among dirs p) 2 0)
