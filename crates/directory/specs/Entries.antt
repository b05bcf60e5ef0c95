-- The eight entries of a directory block.
use Rattle.std.specs.Prelude.{ℕ, zero, suc, ◌+◌, ◌*◌, ◌%◌, Bool, cond, ◌&&◌, List, take, drop, Some, None, Option, slice_index}
use Rattle.std.specs.Str.{bytes_eq}
use Rattle.directory.specs.declared.entry.Entry.{Entry}
use Rattle.directory.specs.Kinds.{status_of, filled}

-- where the entry of a slot begins in its directory block
abbrev pub entry_start : ℕ → ℕ
entry_start k = 32 * (k % 8)

-- type, first block, padded name and number of blocks, low byte first
unfoldable pub entry_of : List ℕ → ℕ → Entry
entry_of b k = record {
  status = status_of (slice_index b (entry_start k + 2));
  first = (slice_index b (entry_start k + 3), slice_index b (entry_start k + 4));
  name = take 16 (drop (entry_start k + 5) b);
  blocks = slice_index b (entry_start k + 30) + 256 * slice_index b (entry_start k + 31);
}

-- slot k is filled and has the name n
unfoldable pub is_of : List ℕ → List ℕ → ℕ → Bool
is_of b n k = filled (entry_of b k).status && bytes_eq (entry_of b k).name n

-- the first of m slots from k on that passes
unfoldable pub first_slot : (ℕ → Bool) → ℕ → ℕ → Option ℕ
first_slot test zero k = None
first_slot test (suc m) k = cond (test k) (Some k) (first_slot test m (k + 1))

-- the first filled slot of the name n among the eight of a block
unfoldable pub slot_of : List ℕ → List ℕ → Option ℕ
slot_of b n = first_slot (is_of b n) 8 0
