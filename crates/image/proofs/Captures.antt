-- A capture read through the aligner gives the blocks of its circles, and writes them as they allow.
use Rattle.std.proofs.Common.{◌≡◌, ℕ, Bool, true, false, cond, List, length, get_or, Ok, Err, IfOk, vec_items, Result, sym, refl, ap, ◌∙◌, subst, inl, inr, arith}
use Rattle.std.proofs.lemmas.Bool.{cases_lt, cond-true}
use Rattle.std.specs.Global.{Vec}
use Rattle.disk.specs.declared.cause.Cause.TheVariants.{NoSuchBlock, Protected, BadImage}
use Rattle.disk.specs.declared.layer.Layer.TheVariants.{Sector}
use Rattle.disk.specs.declared.refusal.Refusal.{Refusal}
use Rattle.disk.specs.Geometry.{Place, legal}
use Rattle.disk.specs.Refusals.{refusal, by_image}
use Rattle.sector.specs.Source.{Disk, reading, loaded, and_then}
use Rattle.sector.specs.Device.{barred, Answers, answering, allowed}
use Rattle.track.specs.Circles.{turned, frames}
use Rattle.track.specs.Reading.{Sought, sought, sought_data}
use Rattle.track.specs.Room.{sought_room}
use Rattle.track.proofs.Starts.{turned_over}
use Rattle.track.proofs.Turns.{sought_turned}
use Rattle.decoder.specs.Decoding.{reading_of, decoded}
use Rattle.decoder.specs.Writing.{answer_of, decoder_answers}
use Rattle.decoder.specs.declared.decoder.Decoder.{Decoder}
use Rattle.aligner.specs.declared.aligner.Aligner.{Aligner}
use Rattle.g64.specs.declared.image.G64.{G64}
use Rattle.g64.specs.Image.{circle_on, checked}
use Rattle.d64.specs.Image.{block_at, answers_of}
use Rattle.image.specs.declared.image.Image.TheVariants.{Capture}
use Rattle.image.specs.Kinds.{is_capture}
use Rattle.image.specs.Images.{contents_of, disk_of, kept_as, Gives}

-- what a circle holds does not hang on where it begins
found_turned : (k : ℕ) (c : List Bool) (t s : ℕ) → sought (frames (turned k c)) t s ≡ sought (frames c) t s
found_turned k c t s = elim (cases_lt (length c) k) [
  | inl l ↦ ap (λ (z : List Bool). sought (frames z) t s) (turned_over k c (omega arith))
  | inr l ↦ sought_turned k c l t s
]

module _ (circle : ℕ → List Bool) (starts : List ℕ) (p : Place) where
  pub turned_same : loaded (decoded (λ t. turned (get_or starts t 0) (circle t))) p ≡ loaded (decoded circle) p
  unfolding loaded decoded
  turned_same = ap (λ (x : Sought). cond (legal p) (reading p (reading_of (sought_data x))) (Err (refusal NoSuchBlock Sector p))) (found_turned (get_or starts p.0 0) (circle p.0) p.0 p.1)

  pub turned_free : (protected : Bool) → allowed (decoder_answers protected (λ t. turned (get_or starts t 0) (circle t))) p ≡ allowed (decoder_answers protected circle) p
  unfolding allowed decoder_answers
  turned_free protected =
      ap (λ (x : Sought). cond (legal p) (answering p (cond protected (barred Protected) (answer_of (sought_room x)))) (Err (refusal NoSuchBlock Sector p)))
      (found_turned (get_or starts p.0 0) (circle p.0) p.0 p.1)

pub captured : (f : List ℕ) (protected : Bool) (c : Decoder (Aligner G64)) → is_capture f ≡ true → vec_items c.source.source.image ≡ f → c.source.source.protected ≡ protected → Gives f protected (Capture c)
captured f protected c k i g =
    record {
      blocks = λ p.
          ap (λ (xs : List ℕ). loaded (decoded (λ t. turned (get_or c.source.starts t 0) (circle_on xs t))) p) i
          ∙ turned_same (circle_on f) c.source.starts p
          ∙ ap (λ (x : Disk). loaded x p) (sym (cond-true (is_capture f) (decoded (circle_on f)) (block_at f) k));
      answers = λ p.
          ap (λ (xs : List ℕ). allowed (decoder_answers c.source.source.protected (λ t. turned (get_or c.source.starts t 0) (circle_on xs t))) p) i
          ∙ ap (λ (b : Bool). allowed (decoder_answers b (λ t. turned (get_or c.source.starts t 0) (circle_on f t))) p) g
          ∙ turned_free (circle_on f) c.source.starts p protected
          ∙ ap (λ (x : Answers). allowed x p) (sym (cond-true (is_capture f) (decoder_answers protected (circle_on f)) (answers_of f protected) k));
    }

same_again : (c : Decoder (Aligner G64)) (f : List ℕ) → vec_items c.source.source.image ≡ f → is_capture f ≡ true → (p : Place) → loaded (disk_of f) p ≡ loaded (contents_of (Capture c)) p
same_again c f i k p = sym ((captured f c.source.source.protected c k i refl).blocks p)

-- the file gives the same blocks again
abbrev pub Again : Decoder (Aligner G64) → Vec ℕ → Type 0
Again c v = (p : Place) → loaded (disk_of (vec_items v)) p ≡ loaded (contents_of (Capture c)) p

-- a capture that hands its file back
pub returned : (c : Decoder (Aligner G64)) (v : Vec ℕ) (r : Result (Vec ℕ) Refusal) → c.source.source.image ≡ v → r ≡ kept_as true checked v → IfOk r (Again c)
returned c v r i e = subst (λ (x : Result (Vec ℕ) Refusal). IfOk x (Again c)) (sym e) (go (is_capture (vec_items v)) refl (checked (vec_items v)))
  where
    go : (k : Bool) → is_capture (vec_items v) ≡ k → (s : Result Unit Refusal) → IfOk (cond k (and_then s (λ _. Ok v)) (Err (by_image BadImage))) (Again c)
    go true k (Ok x) = same_again c (vec_items v) (ap vec_items i) k
    go true k (Err x) = tt
    go false k s = tt
