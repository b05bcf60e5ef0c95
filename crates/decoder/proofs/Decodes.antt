-- Reading what was fetched is reading the circle.
use Rattle.std.proofs.Common.{◌≡◌, ℕ, ◌≤◌, min, Bool, true, List, length, Ok, Err, Result, MatchResult, sym, refl, ap, ◌∙◌, arith}
use Rattle.std.proofs.lemmas.Bool.{true≢false}
use Rattle.std.proofs.lemmas.Bool.Decides.{nat_tests}
use Rattle.std.specs.Result.{IsErrAnd}
use Rattle.disk.specs.declared.cause.Cause.{Cause}
use Rattle.disk.specs.declared.refusal.Refusal.{Refusal}
use Rattle.disk.specs.Geometry.{Place, legal}
use Rattle.sector.specs.Source.{fault_at, reading, loaded, answered, lent}
use Rattle.track.specs.Circles.{circle_of, frames}
use Rattle.track.specs.Reading.{read_block, reading_result, reading_buffer}
use Rattle.track.specs.Fetching.{on_disk, fetch_result, fetch_buffer}
use Rattle.track.proofs.Fetches.{fetched_bits, fetched_circle, refused_off}
use Rattle.decoder.specs.Decoding.{reading_of, decoded}

pub on_disk_legal : (p : Place) → legal p ≡ true → on_disk p.0 ≡ true
unfolding legal
on_disk_legal p h = grind (arith, nat_tests)

pub fetched : (c : ℕ → List Bool) (p : Place) (n : ℕ) (old new : List ℕ) → legal p ≡ true → length old ≡ 8192 → length (c p.0) ≤ 65536 → Ok n ≡ fetch_result c p.0 (length old) → new ≡ fetch_buffer c p.0 old
    → circle_of (min n 65536) new ≡ c p.0
fetched c p n old new h l w e f =
    let d = on_disk_legal p h in
    fetched_circle c p.0 n old new d (omega arith) w (fetched_bits c p.0 n (length old) d (omega arith) e) f

-- the refusal of a block by its cause
abbrev pub placed : {T : Type 0} → Result T Cause → Place → Result T Refusal
placed (Ok x) p = Ok x
placed (Err c) p = Err (fault_at c p)

-- what `map_err` answers, where its closure makes the fault of the block
pub mapped : {T : Type 0} (p : Place) (P : Cause → Refusal → Type 0) (r : Result T Cause) (m : Result T Refusal)
    → ((c : Cause) (f : Refusal) → P c f → f ≡ fault_at c p) → MatchResult r (λ x. m ≡ Ok x) (λ c. IsErrAnd m (P c)) → m ≡ placed r p
mapped p P (Ok x) m k e = e
mapped p P (Err c) (Ok x) k h = absurd h
mapped p P (Err c) (Err f) k h = ap Err (k c f h)

pub placed_as : {T : Type 0} (p : Place) (A B : T → Type 0) (F : Cause → Type 0) (G : Refusal → Type 0) (r : Result T Cause)
    → ((x : T) → A x → B x) → ((c : Cause) → F c → G (fault_at c p)) → MatchResult r A F → MatchResult (placed r p) B G
placed_as p A B F G (Ok x) k l h = k x h
placed_as p A B F G (Err c) k l h = l c h

placed_is : (r : Result (List ℕ) Cause) (p : Place) → placed (reading_result r) p ≡ answered (reading p (reading_of r))
placed_is (Ok b) p = refl
placed_is (Err c) p = refl

lent_is : (r : Result (List ℕ) Cause) (p : Place) (old : List ℕ) → reading_buffer r old ≡ lent (reading p (reading_of r)) old
lent_is (Ok b) p old = refl
lent_is (Err c) p old = refl

pub answers : (c : ℕ → List Bool) (p : Place) (k : List Bool) (r : Result Unit Cause) → legal p ≡ true → k ≡ c p.0 → r ≡ reading_result (read_block (frames k) p.0 p.1) → placed r p ≡ answered (loaded (decoded c) p)
unfolding loaded decoded
answers c p k r h e f =
    ap (λ (x : Result Unit Cause). placed x p) (f ∙ ap (λ (l : List Bool). reading_result (read_block (frames l) p.0 p.1)) e)
    ∙ placed_is (read_block (frames (c p.0)) p.0 p.1) p
    ∙ sym (rw h)

pub buffers : (c : ℕ → List Bool) (p : Place) (k : List Bool) (old new : List ℕ) → legal p ≡ true → k ≡ c p.0 → new ≡ reading_buffer (read_block (frames k) p.0 p.1) old → new ≡ lent (loaded (decoded c) p) old
unfolding loaded decoded
buffers c p k old new h e f =
    f ∙ ap (λ (l : List Bool). reading_buffer (read_block (frames l) p.0 p.1) old) e
    ∙ lent_is (read_block (frames (c p.0)) p.0 p.1) p old
    ∙ sym (rw h)

-- a track of the disk is never refused to a buffer that has the room
pub never_refused : (c : ℕ → List Bool) (p : Place) (n : ℕ) (e : Refusal) → legal p ≡ true → n ≡ 8192 → Err e ≡ fetch_result c p.0 n → ⊥
never_refused c p n e h l f = true≢false (sym (on_disk_legal p h) ∙ refused_off c p.0 n e (omega arith) f)
