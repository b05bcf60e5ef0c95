-- An image after one block of it was written.
use Rattle.std.proofs.Common.{◌≡◌, ℕ, ◌+◌, ◌-◌, ◌≤◌, Bool, true, false, cond, eqb, ◌⊎◌, List, length, take, drop, Ok, Err, vec_items, vec_len, Vec, sym, refl, ap, ◌∙◌, subst, inl, inr, arith}
use borrow.Rule.Slice.PartMut.{put_mid}
use lib.Seq.{paste}
use Rattle.std.proofs.lemmas.Bool.{false≢true, eqb-true, eq-eqb, and_parts, cases_order, cases_Bool}
use Rattle.std.proofs.lemmas.List.{drop-take, with_items_is}
use Rattle.std.proofs.lemmas.List.Edits.{length-paste}
use Rattle.std.proofs.lemmas.Slice.{put_mid-paste, take-put_mid_below, drop-put_mid, between-put_mid}
use Rattle.std.proofs.lemmas.Bool.Decides.{nat_tests}
use Rattle.std.specs.Vec.{with_items}
use Rattle.disk.specs.declared.cause.Cause.TheVariants.{NoSuchBlock}
use Rattle.disk.specs.declared.refusal.Refusal.{Refusal}
use Rattle.disk.specs.Geometry.{Place, legal, index_of}
use Rattle.disk.proofs.Places.{place_same}
use Rattle.sector.specs.Source.{Disk, bytes, fault}
use Rattle.sector.specs.Device.{Answers, allowed, written}
use Rattle.disk.specs.Geometry.{same_place}
use Rattle.d64.proofs.Begins.{Begins}
use Rattle.d64.specs.Image.{offset_of, block_at, answers_of}

-- a list with 256 bytes of it written over: its other parts are as they were
module _ (o : ℕ) (xs b : List ℕ) (l : length b ≡ 256) (h : o + 256 ≤ length xs) where
  pasted : put_mid o 256 xs b ≡ paste xs o b 256
  pasted = put_mid-paste o 256 xs b b 256 refl refl (sym l)

  part_other : (n : ℕ) → ((n + 256 ≤ o) ⊎ (o + 256 ≤ n)) → take 256 (drop n (paste xs o b 256)) ≡ take 256 (drop n xs)
  part_other n (inl w) =
      ap (λ (f : List ℕ). take 256 (drop n f)) (sym pasted) ∙ sym (drop-take n 256 (put_mid o 256 xs b))
      ∙ ap (drop n) (take-put_mid_below o 256 xs b (n + 256) w (omega arith)) ∙ drop-take n 256 xs
  part_other n (inr w) =
      ap (λ (f : List ℕ). take 256 (drop n f)) (sym pasted) ∙ ap (take 256) (drop-put_mid o 256 xs b n w (omega arith) l)

  part_same : take 256 (drop o (paste xs o b 256)) ≡ b
  part_same =
      let z : (o + 256) - o ≡ 256 = omega arith in
      ap (λ (f : List ℕ). take 256 (drop o f)) (sym pasted)
      ∙ subst (λ (m : ℕ). take m (drop o (put_mid o 256 xs b)) ≡ b) z (between-put_mid o 256 xs b (o + 256) (omega arith) (l ∙ sym z))

  pub paste_length : length (paste xs o b 256) ≡ length xs
  paste_length = length-paste xs o b 256 h (omega arith)

same_self : (p : Place) → same_place p p ≡ true
same_self p = grind (arith, nat_tests)

same_tells : (q p : Place) → same_place q p ≡ true → q ≡ p
same_tells q p e =
    let h = and_parts (eqb q.0 p.0) (eqb q.1 p.1) e in
    let a = eqb-true q.0 p.0 h.0 in
    let b = eqb-true q.1 p.1 h.1 in
    λ i. (a i, b i)

read_at : (xs : List ℕ) (q : Place) → legal q ≡ true → length xs ≡ 174848 → block_at xs q ≡ bytes (take 256 (drop (offset_of q) xs))
unfolding block_at
read_at xs q h l = rw (h, eq-eqb (length xs) 174848 l) refl

none_at : (xs : List ℕ) (q : Place) → legal q ≡ false → block_at xs q ≡ fault NoSuchBlock
unfolding block_at
none_at xs q h = rw h refl

-- an allowed write, block by block
module _ (xs b : List ℕ) (protected : Bool) (p : Place) (at : ℕ) (ok : Ok tt ≡ allowed (answers_of xs protected) p) (w : Begins xs p at) (l : length b ≡ 256) where
  fitting : offset_of p + 256 ≤ length xs
  fitting = let b = w.begin in let h = w.within in omega arith

  pub same_length : length (paste xs (offset_of p) b 256) ≡ length xs
  same_length = paste_length (offset_of p) xs b l fitting

  here : (q : Place) → q ≡ p → block_at (paste xs (offset_of p) b 256) q ≡ bytes b
  here q e =
      subst (λ (r : Place). block_at (paste xs (offset_of p) b 256) r ≡ bytes b) (sym e)
      (read_at (paste xs (offset_of p) b 256) p w.there (same_length ∙ w.sized) ∙ ap (λ (f : List ℕ). bytes f) (part_same (offset_of p) xs b l fitting))

  apart : (q : Place) → legal q ≡ true → same_place q p ≡ false → (offset_of q + 256 ≤ offset_of p) ⊎ (offset_of p + 256 ≤ offset_of q)
  apart q h n = elim (cases_order (index_of q) (index_of p)) [
    | inl e ↦ absurd (false≢true (sym n ∙ ap (λ (r : Place). same_place q r) (sym (place_same q p h w.there e)) ∙ same_self q))
    | inr (inl i) ↦ inl (omega arith)
    | inr (inr i) ↦ inr (omega arith)
  ]

  elsewhere : (q : Place) → same_place q p ≡ false → block_at (paste xs (offset_of p) b 256) q ≡ block_at xs q
  elsewhere q n = elim (cases_Bool (legal q)) [
    | inl h ↦ read_at (paste xs (offset_of p) b 256) q h (same_length ∙ w.sized) ∙ ap (λ (f : List ℕ). bytes f) (part_other (offset_of p) xs b l fitting (offset_of q) (apart q h n)) ∙ sym (read_at xs q h w.sized)
    | inr h ↦ none_at (paste xs (offset_of p) b 256) q h ∙ sym (none_at xs q h)
  ]

  pub written_so : (q : Place) → block_at (paste xs (offset_of p) b 256) q ≡ written (answers_of xs protected) (block_at xs) p b q
  unfolding written
  written_so q = rw (← ok) (go (same_place q p) refl)
    where
      go : (s : Bool) → same_place q p ≡ s → block_at (paste xs (offset_of p) b 256) q ≡ cond s (bytes b) (block_at xs q)
      go true e = here q (same_tells q p e)
      go false e = elsewhere q e

-- the bytes of an image, with a block in its part
pub refilled_paste : {Z : Type 0} (v : Vec ℕ Z) (o k : ℕ) (part piece b : List ℕ) → part ≡ vec_items v → piece ≡ b → k ≡ 256 → length b ≡ 256 → o + 256 ≤ vec_len v → (with_items v (put_mid o k part piece)).items ≡ paste (vec_items v) o b 256
refilled_paste v o k part piece b e f z l h =
    let n = v.ok.0 in
    let p = put_mid-paste o k part piece b 256 f (sym z) (sym l) ∙ ap (λ (xs : List ℕ). paste xs o b 256) e in
    with_items_is v (put_mid o k part piece) (ap length p ∙ paste_length o (vec_items v) b l (omega arith) ∙ sym n) ∙ p

-- a write that is not allowed changes no block
pub unwritten : (a : Answers) (d : Disk) (p : Place) (b : List ℕ) (q : Place) (e : Refusal) → Err e ≡ allowed a p → d q ≡ written a d p b q
unfolding written
unwritten a d p b q e h = rw (← h) refl

pub same_answers : (xs ys : List ℕ) (protected : Bool) (q : Place) → length ys ≡ length xs → answers_of ys protected q ≡ answers_of xs protected q
unfolding answers_of
same_answers xs ys protected q e = rw e refl
