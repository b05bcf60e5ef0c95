-- What a volume is: its files, where they lie, and who keeps which block.
use Rattle.std.specs.Prelude.{ℕ, zero, suc, ◌+◌, ◌*◌, Bool, true, false, cond, List, [], length, take, drop, Ok, Err, Result, ◌==◌, nat_lt}
use Rattle.disk.specs.declared.refusal.Refusal.{Refusal}
use Rattle.disk.specs.Geometry.{Place}
use Rattle.sector.specs.Source.{Disk}
use Rattle.directory.specs.declared.kind.FileKind.{FileKind}
use Rattle.directory.specs.declared.kind.Status.{Status}
use Rattle.directory.specs.declared.kind.Status.TheVariants.{Empty, Unclosed, Closed, Foreign}
use Rattle.directory.specs.Entries.{entry_start}
use Rattle.chains.specs.declared.route.Route.TheVariants.{File as FileRoute}
use Rattle.chains.specs.Chains.{Followed, chain_of}
use Rattle.files.specs.Files.{bytes_of}
use Rattle.sound.specs.Owners.{Owners}
use Rattle.sound.specs.Maps.{free_count}
use Rattle.sound.specs.Slots.{slot_place, slot_block, slot_entry}

-- a file: what its entry says, the nine bytes between its name and its count, its blocks and its bytes
pub record File : Type 0 where
  pub kind : FileKind
  pub closed : Bool
  pub name : List ℕ
  pub gap : List ℕ
  pub places : List Place
  pub bytes : List ℕ

-- a slot holds a file, or it is empty and has the 29 bytes that stand past its type
pub data Slot : Type 0 where
  none : List ℕ → Slot
  file : File → Slot

pub record Layout : Type 0 where
  pub title : List ℕ
  pub dirs : List Place
  pub slots : ℕ → Slot
  pub own : Owners

abbrev pub chain_in : Slot → List Place
chain_in (none old) = []
chain_in (file f) = f.places

abbrev pub followed_or : Result Followed Refusal → Followed
followed_or (Ok f) = f
followed_or (Err e) = ([], [])

-- the blocks of the file of slot k
abbrev pub slot_chain : Disk → List Place → ℕ → Followed
slot_chain d dirs k = followed_or (chain_of d FileRoute (slot_place dirs k) (slot_entry d dirs k).first)

abbrev pub stale_bytes : Disk → List Place → ℕ → List ℕ
stale_bytes d dirs k = take 29 (drop (entry_start k + 3) (slot_block d dirs k))

abbrev pub file_at : Disk → List Place → ℕ → FileKind → Bool → File
file_at d dirs k kd cl = record {
  kind = kd;
  closed = cl;
  name = (slot_entry d dirs k).name;
  gap = take 9 (drop (entry_start k + 21) (slot_block d dirs k));
  places = (slot_chain d dirs k).0;
  bytes = bytes_of d (slot_chain d dirs k);
}

abbrev pub slot_of_type : Status → Disk → List Place → ℕ → Slot
slot_of_type Empty d dirs k = none (stale_bytes d dirs k)
slot_of_type (Foreign b) d dirs k = none (stale_bytes d dirs k)
slot_of_type (Unclosed kd) d dirs k = file (file_at d dirs k kd false)
slot_of_type (Closed kd) d dirs k = file (file_at d dirs k kd true)

-- what slot k of a directory holds; slots count along its blocks, eight in each
unfoldable pub slot_in : Disk → List Place → ℕ → Slot
slot_in d dirs k = cond (nat_lt k (8 * length dirs)) (slot_of_type (slot_entry d dirs k).status d dirs k) (none [])

-- how many of the first n slots hold a file
abbrev pub is_file : Slot → Bool
is_file (none old) = false
is_file (file f) = true

unfoldable pub file_count : (ℕ → Slot) → ℕ → ℕ
file_count slots zero = 0
file_count slots (suc n) = file_count slots n + cond (is_file (slots n)) 1 0

-- how many blocks of the tracks 1 to n, off track 18, nobody keeps
unfoldable pub free_blocks : Owners → ℕ → ℕ
free_blocks own zero = 0
free_blocks own (suc n) = free_blocks own n + cond (suc n == 18) 0 (free_count own (suc n) 24)
