-- What an accepted laying does, and what it tells.
use Rattle.std.proofs.Common.{◌≡◌, ℕ, Bool, true, false, cond, ◌&&◌, eqb, List, length, take, is_ok, Ok, Err, Result, sym, refl, ap, ◌∙◌}
use Rattle.std.proofs.lemmas.Bool.{true≢false}
use Rattle.disk.specs.declared.refusal.Refusal.{Refusal}
use Rattle.gcr.specs.Bits.{bits_of}
use Rattle.track.specs.Fetching.{on_disk}
use Rattle.track.specs.Laying.{fits, laid_on, lay_result, lay_circle}

-- the circles after an accepted laying
pub lay_done : (G : Bool) (c : ℕ → List Bool) (t p n : ℕ) (given : List ℕ) → Ok tt ≡ lay_result G (length (c t)) t p n (length given)
    → (u : ℕ) → cond (eqb u t) (laid_on p (take n (bits_of given)) (c u)) (c u) ≡ lay_circle G c t p n given u
lay_done G c t p n given e u = ap (λ (x : Result Unit Refusal). cond (is_ok x && eqb u t) (laid_on p (take n (bits_of given)) (c u)) (c u)) e

all_three : (d g f : Bool) (a b e : Refusal) (x : Result Unit Refusal) → is_ok x ≡ true → x ≡ cond d (cond g (Err a) (cond f (Ok tt) (Err b))) (Err e) → (d ≡ true) × (g ≡ false) × (f ≡ true)
all_three true true f a b e x o h = absurd (true≢false (sym o ∙ ap is_ok h))
all_three true false true a b e x o h = (refl, refl, refl)
all_three true false false a b e x o h = absurd (true≢false (sym o ∙ ap is_ok h))
all_three false g f a b e x o h = absurd (true≢false (sym o ∙ ap is_ok h))

-- what an accepted laying tells
pub lay_accepted : (G : Bool) (size t p n m : ℕ) → is_ok (lay_result G size t p n m) ≡ true → (on_disk t ≡ true) × (G ≡ false) × (fits size p n m ≡ true)
lay_accepted G size t p n m o = all_three (on_disk t) G (fits size p n m) _ _ _ (lay_result G size t p n m) o refl
