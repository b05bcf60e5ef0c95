-- The slots of a directory, and the owners of its files' blocks.
use Rattle.std.specs.Prelude.{ℕ, zero, suc, ◌+◌, ◌/◌, Bool, false, cond, ◌||◌, List, length, Ok, Err, Result, ◌==◌, slice_index_or}
use Rattle.disk.specs.declared.cause.Cause.TheVariants.{BadStructure, ForeignType}
use Rattle.disk.specs.declared.refusal.Refusal.{Refusal}
use Rattle.disk.specs.Geometry.{Place}
use Rattle.disk.specs.Refusals.{by_volume}
use Rattle.sector.specs.Source.{Disk, loaded, and_then}
use Rattle.directory.specs.declared.entry.Entry.{Entry}
use Rattle.directory.specs.declared.kind.Status.{Status}
use Rattle.directory.specs.declared.kind.Status.TheVariants.{Empty, Unclosed, Closed, Foreign}
use Rattle.directory.specs.Entries.{entry_of, is_of}
use Rattle.chains.specs.declared.route.Route.TheVariants.{File}
use Rattle.chains.specs.Chains.{chain_of}
use Rattle.files.specs.Files.{held}
use Rattle.sound.specs.Owners.{Owners, claimed}

-- the directory block in which slot k stands, its bytes, and the entry
abbrev pub slot_place : List Place → ℕ → Place
slot_place dirs k = slice_index_or dirs (k / 8) (0, 0)

unfoldable pub slot_block : Disk → List Place → ℕ → List ℕ
slot_block d dirs k = held (loaded d (slot_place dirs k))

abbrev pub slot_entry : Disk → List Place → ℕ → Entry
slot_entry d dirs k = entry_of (slot_block d dirs k) k

-- one of the slots before k is filled and has the name n
unfoldable pub met_before : Disk → List Place → List ℕ → ℕ → Bool
met_before d dirs n zero = false
met_before d dirs n (suc k) = is_of (slot_block d dirs k) n k || met_before d dirs n k

-- the owners once the file of slot k keeps its blocks; its entry e stands in the block `at`
unfoldable pub file_kept : Disk → Place → Entry → ℕ → Owners → Result Owners Refusal
file_kept d at e k own =
    and_then (chain_of d File at e.first) (λ f.
    and_then (claimed own f.0 at (3 + k)) (λ o.
    cond (length f.0 == e.blocks) (Ok o) (Err (by_volume BadStructure at))))

-- a filled slot: its type must be ours, and its name not met before
abbrev pub by_type : Status → Place → Bool → Result Owners Refusal → Owners → Result Owners Refusal
by_type Empty at met r own = Ok own
by_type (Foreign b) at met r own = Err (by_volume ForeignType at)
by_type (Unclosed k) at met r own = cond met (Err (by_volume BadStructure at)) r
by_type (Closed k) at met r own = cond met (Err (by_volume BadStructure at)) r

-- the owners once slot k is looked at
unfoldable pub slot_kept : Disk → List Place → ℕ → Owners → Result Owners Refusal
slot_kept d dirs k own =
    by_type (slot_entry d dirs k).status (slot_place dirs k) (met_before d dirs (slot_entry d dirs k).name k)
    (file_kept d (slot_place dirs k) (slot_entry d dirs k) k own) own

-- the owners once n slots from k on are looked at, one after another
unfoldable pub slots_kept : Disk → List Place → ℕ → ℕ → Owners → Result Owners Refusal
slots_kept d dirs zero k own = Ok own
slots_kept d dirs (suc n) k own = and_then (slot_kept d dirs k own) (slots_kept d dirs n (k + 1))
