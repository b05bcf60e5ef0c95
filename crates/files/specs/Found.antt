-- From a name to its entry and its chain.
use Rattle.std.specs.Prelude.{ℕ, ◌-◌, List, length, Some, None, Ok, Err, Option, Result, slice_index_or}
use Rattle.disk.specs.declared.cause.Cause.TheVariants.{Unclosed as UnclosedFile, NotFound, ForeignType}
use Rattle.disk.specs.declared.refusal.Refusal.{Refusal}
use Rattle.disk.specs.Geometry.{Place}
use Rattle.disk.specs.Refusals.{by_volume}
use Rattle.sector.specs.Source.{Disk, and_then}
use Rattle.files.specs.declared.find.Located.{Located}
use Rattle.directory.specs.declared.kind.Status.{Status}
use Rattle.directory.specs.declared.kind.Status.TheVariants.{Empty, Unclosed, Closed, Foreign}
use Rattle.chains.specs.declared.route.Route.TheVariants.{File, Search}
use Rattle.directory.specs.Names.{named}
use Rattle.directory.specs.Entries.{entry_of, slot_of}
use Rattle.chains.specs.Chains.{Followed, chain_of}

-- the last of some places
abbrev pub last_of : List Place → Place
last_of ps = slice_index_or ps (length ps - 1) (0, 0)

-- the entry of a slot of the block b, at p; no slot, no such file
abbrev pub found_in : Place → List ℕ → Option ℕ → Result Located Refusal
found_in p b None = Err (by_volume NotFound (0, 0))
found_in p b (Some k) = Ok (record { at = p; entry = entry_of b k })

-- the directory from 18/1 on, as far as the first filled slot of the title n
abbrev pub entry_for : Disk → List ℕ → Result Located Refusal
entry_for d n = and_then (chain_of d (Search n) (18, 0) (18, 1)) (λ f. found_in (last_of f.0) f.1 (slot_of f.1 n))

unfoldable pub located : Disk → List ℕ → Result Located Refusal
located d name = and_then (named name) (entry_for d)

abbrev pub by_status : Status → Place → Result Unit Refusal
by_status (Closed k) p = Ok tt
by_status (Unclosed k) p = Err (by_volume UnclosedFile p)
by_status (Foreign b) p = Err (by_volume ForeignType p)
by_status Empty p = Err (by_volume ForeignType p)

-- the entry of a closed file
abbrev pub closed_at : Located → Result Unit Refusal
closed_at e = by_status e.entry.status e.at

-- the blocks of the closed file of a name
unfoldable pub file_chain : Disk → List ℕ → Result Followed Refusal
file_chain d name = and_then (located d name) (λ e. and_then (closed_at e) (λ _. chain_of d File e.at e.entry.first))
