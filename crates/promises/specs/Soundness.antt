-- A sound volume in its own words, and that the check accepts just these.
use Rattle.std.specs.Prelude.{◌≡◌, ℕ, ◌+◌, ◌*◌, ◌<◌, ◌≤◌, List, length, Ok, Result, ◌==◌, ◌≢◌, slice_index, slice_index_or}
use Rattle.disk.specs.declared.refusal.Refusal.{Refusal}
use Rattle.disk.specs.Geometry.{Place, same_place}
use Rattle.sector.specs.Source.{Disk, loaded}
use Rattle.directory.specs.declared.kind.Status.TheVariants.{Foreign}
use Rattle.chains.specs.declared.route.Route.TheVariants.{File as FileRoute, Directory}
use Rattle.chains.specs.Sets.{among}
use Rattle.chains.specs.Chains.{chain_of}
use Rattle.sound.specs.Maps.{nobody, map_bit, free_count}
use Rattle.sound.specs.Slots.{slot_place, slot_entry}
use Rattle.sound.specs.Layout.{File, file, Layout, chain_in, slot_in, slot_chain}

-- each block has one owner, since owners are a function of the place; this says which
pub record Kept (L : Layout) : Type 0 where
  pub system : (p : Place) → (L.own p == 1) ≡ same_place p (18, 0)
  pub directory : (p : Place) → (L.own p == 2) ≡ among L.dirs p
  pub files : (k : ℕ) (p : Place) → (L.own p == 3 + k) ≡ among (chain_in (L.slots k)) p

-- the free map of 18/0 is the blocks that nobody keeps, and its counts count them
pub record Mapped (L : Layout) : Type 0 where
  pub bits : (t s : ℕ) → 1 ≤ t → t ≤ 35 → s < 24 → map_bit L.title (t, s) ≡ nobody L.own (t, s)
  pub counts : (t : ℕ) → 1 ≤ t → t ≤ 35 → slice_index L.title (4 * t) ≡ free_count L.own t 24

-- the disk holds a volume of this layout
pub record Sound (d : Disk) (L : Layout) : Type 0 where
  pub title : loaded d (18, 0) ≡ Ok L.title
  pub version : slice_index_or L.title 2 0 ≡ 65
  -- the directory is the chain from 18/1
  pub last : List ℕ
  pub directory : chain_of d Directory (18, 0) (18, 1) ≡ Ok (L.dirs, last)
  -- each slot holds what its entry says, and no entry is of a foreign type
  pub slots : (k : ℕ) → L.slots k ≡ slot_in d L.dirs k
  pub ours : (k b : ℕ) → k < 8 * length L.dirs → (slot_entry d L.dirs k).status ≢ Foreign b
  -- each file's chain can be followed to its end, and has as many blocks as its entry says
  pub chains : (k : ℕ) (f : File) → L.slots k ≡ file f → chain_of d FileRoute (slot_place L.dirs k) (slot_entry d L.dirs k).first ≡ Ok (slot_chain d L.dirs k)
  pub counts : (k : ℕ) (f : File) → L.slots k ≡ file f → (slot_entry d L.dirs k).blocks ≡ length f.places
  -- no two files have one name
  pub names : (j k : ℕ) (f g : File) → L.slots j ≡ file f → L.slots k ≡ file g → f.name ≡ g.name → j ≡ k
  pub kept : Kept L
  pub map : Mapped L

-- a check accepts a disk with a layout exactly if the disk holds a sound volume of it
abbrev pub Checking : (Disk → Result Layout Refusal) → Type 0
Checking check = (d : Disk) (L : Layout) → (check d ≡ Ok L → Sound d L) × (Sound d L → check d ≡ Ok L)
