-- What an image file gives, by its kind.
use Rattle.std.specs.Prelude.{◌≡◌, ℕ, Bool, cond, not, List, length, Ok, Err, vec_items, Result, slice_index}
use Rattle.std.specs.Global.{Vec}
use Rattle.disk.specs.declared.cause.Cause.TheVariants.{BadImage}
use Rattle.disk.specs.declared.refusal.Refusal.{Refusal}
use Rattle.disk.specs.Geometry.{Place}
use Rattle.disk.specs.Refusals.{by_image}
use Rattle.sector.specs.Source.{Disk, loaded, and_then}
use Rattle.sector.specs.Device.{Answers, allowed}
use Rattle.track.specs.Circles.{turned}
use Rattle.decoder.specs.Decoding.{decoded}
use Rattle.decoder.specs.Writing.{decoder_answers}
use Rattle.d64.specs.Image.{block_at, answers_of, checked_length}
use Rattle.g64.specs.Image.{circle_on, checked}
use Rattle.image.specs.declared.image.Image.{Image}
use Rattle.image.specs.declared.image.Image.TheVariants.{Blocks, Capture}
use Rattle.image.specs.Kinds.{is_capture}

-- what the blocks of an image hold
abbrev pub contents_of : Image → Disk
contents_of (Blocks d) = block_at (vec_items d.image)
contents_of (Capture c) = decoded (λ t. turned (slice_index c.source.starts t) (circle_on (vec_items c.source.source.image) t))

-- whether they may be written
abbrev pub answers_as : Image → Answers
answers_as (Blocks d) = answers_of (vec_items d.image) d.protected
answers_as (Capture c) = decoder_answers c.source.source.protected (λ t. turned (slice_index c.source.starts t) (circle_on (vec_items c.source.source.image) t))

-- the blocks of a file: of a capture, those that its circles hold as captured
abbrev pub disk_of : List ℕ → Disk
disk_of f = cond (is_capture f) (decoded (circle_on f)) (block_at f)

-- whether they may be written, where the file was opened protected or not
abbrev pub answers_in : List ℕ → Bool → Answers
answers_in f protected = cond (is_capture f) (decoder_answers protected (circle_on f)) (answers_of f protected)

-- an image gives each block of a file, and writes it where the file's own rules allow that
pub record Gives (f : List ℕ) (protected : Bool) (i : Image) : Type 0 where
  pub blocks : (p : Place) → loaded (contents_of i) p ≡ loaded (disk_of f) p
  pub answers : (p : Place) → allowed (answers_as i) p ≡ allowed (answers_in f protected) p

-- the check of a file, by its kind
abbrev pub checked_as : List ℕ → Result Unit Refusal
checked_as f = cond (is_capture f) (checked f) (checked_length (length f))

-- an opened image gives each block of its file; an image that is not opened is refused by its check
abbrev pub opened_by : Result Unit Refusal → List ℕ → Result Image Refusal → Type 0
opened_by (Ok x) f (Ok i) = (p : Place) → loaded (contents_of i) p ≡ loaded (disk_of f) p
opened_by (Ok x) f (Err e) = ⊥
opened_by (Err e) f (Ok i) = ⊥
opened_by (Err e) f (Err g) = g ≡ e

abbrev pub opened_as : List ℕ → Result Image Refusal → Type 0
opened_as f r = opened_by (checked_as f) f r

-- the bytes of an image's file, and whether they are taken for its kind
abbrev pub file_of : Image → List ℕ
file_of (Blocks d) = vec_items d.image
file_of (Capture c) = vec_items c.source.source.image

abbrev pub of_kind : Image → Bool → Bool
of_kind (Blocks d) capture = not capture
of_kind (Capture c) capture = capture

-- the file that an image hands back: one that opens again as an image of its kind
abbrev pub handed_back : Image → Result (List ℕ) Refusal
handed_back i = cond (of_kind i (is_capture (file_of i))) (and_then (checked_as (file_of i)) (λ _. Ok (file_of i))) (Err (by_image BadImage))

-- a file, where it is taken for a capture or not as is wanted and passes a check
abbrev pub kept_as : Bool → (List ℕ → Result Unit Refusal) → Vec ℕ → Result (Vec ℕ) Refusal
kept_as capture check v = cond (cond capture (is_capture (vec_items v)) (not (is_capture (vec_items v)))) (and_then (check (vec_items v)) (λ _. Ok v)) (Err (by_image BadImage))
