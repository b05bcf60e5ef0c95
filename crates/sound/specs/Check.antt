-- The check of a volume: its layout, or the first fault.
use Rattle.std.specs.Prelude.{ℕ, ◌*◌, cond, List, length, Ok, Err, Result, ◌==◌, slice_index}
use Rattle.disk.specs.declared.cause.Cause.TheVariants.{BadStructure, NotDos}
use Rattle.disk.specs.declared.refusal.Refusal.{Refusal}
use Rattle.disk.specs.Geometry.{Place}
use Rattle.disk.specs.Refusals.{by_volume}
use Rattle.sector.specs.Source.{Disk, loaded, and_then}
use Rattle.chains.specs.declared.route.Route.TheVariants.{Directory}
use Rattle.chains.specs.Chains.{chain_of}
use Rattle.sound.specs.Owners.{Owners, first_owners}
use Rattle.sound.specs.Maps.{map_agrees}
use Rattle.sound.specs.Slots.{slots_kept}
use Rattle.sound.specs.Layout.{Layout, slot_in}

-- 18/0 says that this is a DOS 2A volume
abbrev pub dos : List ℕ → Result Unit Refusal
dos b = cond (slice_index b 2 == 65) (Ok tt) (Err (by_volume NotDos (18, 0)))

-- the free map says which blocks nobody keeps
abbrev pub mapped : List ℕ → Owners → Result Unit Refusal
mapped b own = cond (map_agrees b own 35) (Ok tt) (Err (by_volume BadStructure (18, 0)))

abbrev pub layout_of : Disk → List ℕ → List Place → Owners → Layout
layout_of d b dirs own = record { title = b; dirs = dirs; slots = slot_in d dirs; own = own }

-- the files of a directory of these blocks, and then the map
unfoldable pub checked_files : Disk → List ℕ → List Place → Result Layout Refusal
checked_files d b dirs =
    and_then (slots_kept d dirs (8 * length dirs) 0 (first_owners dirs)) (λ own.
    and_then (mapped b own) (λ _. Ok (layout_of d b dirs own)))

-- the layout of a sound volume, or the first fault in the order of the rules
unfoldable pub checked : Disk → Result Layout Refusal
checked d =
    and_then (loaded d (18, 0)) (λ b.
    and_then (dos b) (λ _.
    and_then (chain_of d Directory (18, 0) (18, 1)) (λ f. checked_files d b f.0)))
