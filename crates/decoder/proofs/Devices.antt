-- The write answers of the decoder, and its blocks after a write.
use Rattle.std.proofs.Common.{◌≡◌, ℕ, ◌*◌, Bool, true, false, cond, ◌&&◌, eqb, ltb, leb, List, length, take, is_ok, Ok, Err, Result, sym, refl, ap, ◌∙◌, subst, ⊎_elim, arith}
use Rattle.std.proofs.lemmas.List.{take_all}
use Rattle.std.proofs.lemmas.Bool.{cond-true, cond-false, cases_Bool, and_from, lt-ltb, le-leb, eqb-true, eq-eqb}
use Rattle.disk.specs.declared.cause.Cause.{Cause}
use Rattle.disk.specs.declared.cause.Cause.TheVariants.{NoSuchBlock, Protected}
use Rattle.disk.specs.declared.layer.Layer.TheVariants.{Sector}
use Rattle.disk.specs.declared.refusal.Refusal.{Refusal}
use Rattle.disk.specs.Bytes.{Bytes}
use Rattle.disk.specs.Geometry.{Place, legal, same_place}
use Rattle.disk.specs.Refusals.{refusal}
use Rattle.gcr.specs.Bits.{bits_of}
use Rattle.gcr.proofs.Bits.{length_bits_of}
use Rattle.sector.specs.Source.{Disk, bytes, fault_at}
use Rattle.sector.specs.Device.{barred, Answers, answering, allowed, written}
use Rattle.track.specs.Circles.{frames}
use Rattle.track.specs.Fetching.{on_disk}
use Rattle.track.specs.Laying.{laid_on, fits, lay_result, lay_circle}
use Rattle.track.specs.Reading.{read_block}
use Rattle.track.specs.Room.{room_for, FreeAt}
use Rattle.laying.specs.Laws.{SameSyncs}
use Rattle.decoder.specs.Decoding.{reading_of, decoded}
use Rattle.decoder.specs.Writing.{data_bits, answer_of, decoder_answers}
use Rattle.decoder.specs.Laws.{Written}
use Rattle.decoder.proofs.Decodes.{on_disk_legal}
use Rattle.decoder.proofs.Writes.{writing, write_fits}

-- off the disk
pub off_disk : (a : Answers) (p : Place) → legal p ≡ false → Err (refusal NoSuchBlock Sector p) ≡ allowed a p
unfolding allowed
off_disk a p h = sym (cond-false (legal p) _ _ h)

module _ (protected : Bool) (c : ℕ → List Bool) (p : Place) (h : legal p ≡ true) where
  pub barred_all : protected ≡ true → Err (fault_at Protected p) ≡ allowed (decoder_answers protected c) p
  unfolding allowed decoder_answers
  barred_all g = sym (cond-true (legal p) _ _ h ∙ ap (answering p) (cond-true protected _ _ g))

  -- on a medium that is not protected
  answer_is : protected ≡ false → (r : Result Unit Cause) → room_for (frames (c p.0)) p.0 p.1 ≡ r → allowed (decoder_answers protected c) p ≡ answering p (answer_of r)
  unfolding allowed decoder_answers
  answer_is g r e = cond-true (legal p) _ _ h ∙ ap (answering p) (cond-false protected _ _ g ∙ ap answer_of e)

  pub no_room : protected ≡ false → (k : List Bool) (e : Cause) → k ≡ c p.0 → room_for (frames k) p.0 p.1 ≡ Err e → Err (fault_at e p) ≡ allowed (decoder_answers protected c) p
  no_room g k e q f = sym (answer_is g (Err e) (ap (λ (z : List Bool). room_for (frames z) p.0 p.1) (sym q) ∙ f))

  pub is_free : protected ≡ false → (n : ℕ) → FreeAt (c p.0) p.0 p.1 n → Ok tt ≡ allowed (decoder_answers protected c) p
  is_free g n F = sym (answer_is g (Ok tt) F.room)

-- a refusal leaves what the blocks hold
pub left_as_is : (a : Answers) (d : Disk) (p : Place) (b : List ℕ) (e : Refusal) → Err e ≡ allowed a p → (q : Place) → d q ≡ written a d p b q
unfolding written
left_as_is a d p b e f q = ap (λ (x : Result Unit Refusal). cond (is_ok x && same_place q p) (bytes b) (d q)) f

pub syncs_same : (c d : List Bool) → d ≡ c → SameSyncs c d
syncs_same c d e = subst (SameSyncs c) (sym e) (record { size = refl; begins = λ q. refl; ends = λ q s. refl })

-- a medium before and after the bits of a block were laid for the free block at p
pub record Wrote (old new : Bool) (c d : ℕ → List Bool) (p : Place) (b : List ℕ) (r : Result Unit Refusal) : Type 0 where
  pub answer : r ≡ allowed (decoder_answers old c) p
  pub contents : (q : Place) → decoded d q ≡ written (decoder_answers old c) (decoded c) p b q
  pub answers : (q : Place) → decoder_answers new d q ≡ decoder_answers old c q
  pub syncs : (u : ℕ) → SameSyncs (c u) (d u)

module _ (c d : ℕ → List Bool) (p : Place) (n : ℕ) (b : List ℕ) (W : Written (c p.0) (laid_on n (data_bits b) (c p.0)) p.0 p.1 b)
    (on : d p.0 ≡ laid_on n (data_bits b) (c p.0)) (off : (u : ℕ) → eqb u p.0 ≡ false → d u ≡ c u) where
  held : (q : Place) → decoded d q ≡ cond (same_place q p) (bytes b) (decoded c q)
  unfolding decoded
  held q =
      ⊎_elim
      (λ t. let i : q.0 ≡ p.0 = eqb-true q.0 p.0 t in
      ap (λ (z : List Bool). reading_of (read_block (frames z) q.0 q.1)) (ap d i ∙ on)
      ∙ ap reading_of (W.blocks q.0 q.1)
      ∙ elim (same_place q p) as (λ v. reading_of (cond v (Ok b) (read_block (frames (c p.0)) q.0 q.1)) ≡ cond v (bytes b) (reading_of (read_block (frames (c p.0)) q.0 q.1))) [ true ↦ refl | false ↦ refl ]
      ∙ ap (λ (z : List Bool). cond (same_place q p) (bytes b) (reading_of (read_block (frames z) q.0 q.1))) (sym (ap c i)))
      (λ f. ap (λ (z : List Bool). reading_of (read_block (frames z) q.0 q.1)) (off q.0 f)
      ∙ ap (λ (v : Bool). cond (v && eqb q.1 p.1) (bytes b) (reading_of (read_block (frames (c q.0)) q.0 q.1))) (sym f))
      (cases_Bool (eqb q.0 p.0))

  rooms : (q : Place) → room_for (frames (d q.0)) q.0 q.1 ≡ room_for (frames (c q.0)) q.0 q.1
  rooms q =
      ⊎_elim
      (λ t. let i : q.0 ≡ p.0 = eqb-true q.0 p.0 t in
      ap (λ (z : List Bool). room_for (frames z) q.0 q.1) (ap d i ∙ on) ∙ W.rooms q.0 q.1
      ∙ ap (λ (z : List Bool). room_for (frames z) q.0 q.1) (sym (ap c i)))
      (λ f. ap (λ (z : List Bool). room_for (frames z) q.0 q.1) (off q.0 f))
      (cases_Bool (eqb q.0 p.0))

  stay : (u : ℕ) → SameSyncs (c u) (d u)
  stay u =
      ⊎_elim
      (λ t. let i : u ≡ p.0 = eqb-true u p.0 t in
      subst (λ (k : ℕ). SameSyncs (c k) (d k)) (sym i) (subst (SameSyncs (c p.0)) (sym on) W.syncs))
      (λ f. syncs_same (c u) (d u) (off u f))
      (cases_Bool (eqb u p.0))

pub wrote : (old new : Bool) (c d : ℕ → List Bool) (p : Place) (n : ℕ) (b given : List ℕ) (r : Result Unit Refusal)
    → legal p ≡ true → old ≡ false → FreeAt (c p.0) p.0 p.1 n → length b ≡ 256 → Bytes b → length given ≡ 325 → bits_of given ≡ data_bits b
    → r ≡ lay_result old (length (c p.0)) p.0 n 2600 (length given)
    → ((u : ℕ) → d u ≡ lay_circle old c p.0 n 2600 given u)
    → new ≡ old
    → Wrote old new c d p b r
unfolding written decoder_answers
wrote old new c d p n b given r h g F lb bb lg bg er ec en =
    let t : ℕ = p.0 in
    let W = writing (c t) t p.1 n b lb bb F in
    let ft = write_fits (c t) t p.1 n b lb bb F in
    let ok : lay_result old (length (c t)) t n 2600 (length given) ≡ Ok tt =
    cond-true (on_disk t) _ _ (on_disk_legal p h) ∙ cond-false old _ _ g
    ∙ cond-true (fits (length (c t)) n 2600 (length given)) _ _
    (and_from (ltb n (length (c t))) _ (lt-ltb n (length (c t)) F.near)
    (and_from (leb 2600 (length (c t))) _ (le-leb 2600 (length (c t)) ft) (le-leb 2600 (length given * 8) (omega arith)))) in
    let bits : take 2600 (bits_of given) ≡ data_bits b = take_all 2600 (bits_of given) (let z = length_bits_of given in omega arith) ∙ bg in
    let at : (u : ℕ) → d u ≡ cond (eqb u t) (laid_on n (data_bits b) (c u)) (c u) = λ u.
    ec u
    ∙ ap (λ (x : Result Unit Refusal). cond (is_ok x && eqb u t) (laid_on n (take 2600 (bits_of given)) (c u)) (c u)) ok
    ∙ ap (λ (l : List Bool). cond (eqb u t) (laid_on n l (c u)) (c u)) bits in
    let on : d t ≡ laid_on n (data_bits b) (c t) = at t ∙ cond-true (eqb t t) _ _ (eq-eqb t t refl) in
    let off : (u : ℕ) → eqb u t ≡ false → d u ≡ c u = λ u f. at u ∙ cond-false (eqb u t) _ _ f in
    let fr : Ok tt ≡ allowed (decoder_answers old c) p = is_free old c p h g n F in
    record {
      answer = er ∙ ok ∙ fr;
      contents = λ q. held c d p n b W on off q ∙ ap (λ (x : Result Unit Refusal). cond (is_ok x && same_place q p) (bytes b) (decoded c q)) fr;
      answers = λ q. ap (λ (v : Bool). cond v (barred Protected) (answer_of (room_for (frames (d q.0)) q.0 q.1))) en
          ∙ ap (λ (x : Result Unit Cause). cond old (barred Protected) (answer_of x)) (rooms c d p n b W on off q);
      syncs = stay c d p n b W on off;
    }
