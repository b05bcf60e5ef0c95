-- Bytes written over those of one track: the file is still an image, and only that track's circle changed.
use Rattle.std.proofs.Common.{◌≡◌, ℕ, ◌+◌, ◌≤◌, Bool, true, false, cond, eqb, List, ◌++◌, length, take, drop, is_ok, Ok, sym, refl, ap, ◌∙◌, subst, arith}
use borrow.Rule.Slice.PartMut.{put_mid}
use Rattle.std.proofs.lemmas.List.{take_at, drop_at, length-append, length-drop, length-take-le}
use Rattle.std.proofs.lemmas.Slice.{take-put_mid_below, drop-put_mid}
use Rattle.std.proofs.lemmas.Bool.{eqb-true, eqb-false}
use Rattle.gcr.specs.Bits.{bits_of}
use Rattle.track.specs.Laying.{fits, lay_result}
use Rattle.laying.proofs.Lays.{lay_accepted}
use Rattle.laying.proofs.Spans.{span}
use Rattle.g64.specs.Layout.{offset_of, length_of, end_of, valid}
use Rattle.g64.specs.Image.{given, circle_on}
use Rattle.g64.specs.Stored.{room, Given, given_some}
use Rattle.g64.proofs.Kept.{Kept, still_valid, stored_own, stored_other}

-- bytes written over some of a file
module _ (f new : List ℕ) (a k : ℕ) (l : length new ≡ k) (h : a + k ≤ length f) where
  pub put_kept : Kept f (put_mid a k f new) a (a + k)
  put_kept = record {
    size = length-append (take a f) (new ++ drop k (drop a f)) ∙ (let x = length-take-le a f (omega arith) in let y = length-append new (drop k (drop a f)) in let z = length-drop k (drop a f) in let w = length-drop a f in omega arith);
    front = take-put_mid_below a k f new a (omega arith) (omega arith);
    back = drop-put_mid a k f new (a + k) (omega arith) (omega arith) l;
  }

  pub put_part : take k (drop a (put_mid a k f new)) ≡ new
  put_part = ap (take k) (drop_at (take a f) (new ++ drop k (drop a f)) a (length-take-le a f (omega arith))) ∙ take_at new (drop k (drop a f)) k l

-- new bytes of track t, whose circle they turn by F
module _ (f new : List ℕ) (t a k : ℕ) (F : List Bool → List Bool) (y : Given f t) (p : a ≡ offset_of f t + 2) (q : k ≡ length_of f t) (l : length new ≡ k) (e : bits_of new ≡ F (circle_on f t)) where
  there : offset_of f t ≡ 0 → ⊥
  there = eqb-false (offset_of f t) 0 y.placed

  kept_at : Kept f (put_mid a k f new) (offset_of f t + 2) (end_of f t)
  kept_at =
      let w = (room f t y.sound_file y.least y.most y.placed).within in
      subst (λ (x : ℕ). Kept f (put_mid a k f new) (offset_of f t + 2) (offset_of f t + 2 + x)) q
      (subst (λ (x : ℕ). Kept f (put_mid a k f new) x (x + k)) p (put_kept f new a k l (omega arith)))

  pub put_valid : valid (put_mid a k f new) ≡ true
  put_valid = still_valid f (put_mid a k f new) t y.sound_file y.least y.most there kept_at

  put_own : circle_on (put_mid a k f new) t ≡ F (circle_on f t)
  put_own =
      let w = (room f t y.sound_file y.least y.most y.placed).within in
      ap bits_of
      (stored_own f (put_mid a k f new) t y.sound_file y.least y.most there kept_at
      ∙ (λ i. take (sym q i) (drop (sym p i) (put_mid a k f new)))
      ∙ put_part f new a k l (omega arith))
      ∙ e

  pub put_circle : (u : ℕ) → circle_on (put_mid a k f new) u ≡ cond (eqb u t) (F (circle_on f u)) (circle_on f u)
  put_circle u =
      let P : Bool → Type 0 = λ b. eqb u t ≡ b → circle_on (put_mid a k f new) u ≡ cond b (F (circle_on f u)) (circle_on f u) in
      (elim (eqb u t) as P [
        | true ↦ λ h. subst (λ (x : ℕ). circle_on (put_mid a k f new) x ≡ F (circle_on f x)) (sym (eqb-true u t h)) put_own
        | false ↦ λ h. ap bits_of (stored_other f (put_mid a k f new) t y.sound_file y.least y.most there kept_at u (λ n. eqb-false u t h (sym n)))
      ]) refl

-- what an accepted laying says of the file
pub record Accepted (G : Bool) (f : List ℕ) (t p n m : ℕ) : Type 0 where
  pub has : given f t ≡ true
  pub fitting : fits (length (circle_on f t)) p n m ≡ true
  pub answer : Ok tt ≡ lay_result G (length (circle_on f t)) t p n m

pub accepted : (G : Bool) (f : List ℕ) (t p n m size : ℕ) → size ≡ length (circle_on f t) → Ok tt ≡ lay_result G size t p n m → Accepted G f t p n m
accepted G f t p n m size s e =
    let a : Ok tt ≡ lay_result G (length (circle_on f t)) t p n m = e ∙ ap (λ (x : ℕ). lay_result G x t p n m) s in
    let b = (lay_accepted G (length (circle_on f t)) t p n m (sym (ap is_ok a))).2 in
    let h = (span (length (circle_on f t)) p n m b).near in
    record { has = given_some f t (omega arith); fitting = b; answer = a }
