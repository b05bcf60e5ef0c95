-- The first frame of a circle that begins with one.
use Rattle.std.proofs.Common.{◌≡◌, ℕ, zero, suc, ◌+◌, ◌-◌, ◌≤◌, Bool, true, false, not, ◌&&◌, List, [], ◌∷◌, ◌++◌, length, get_or, drop, replicate, sym, refl, ap, ◌∙◌, ⊎_elim, arith}
use Rattle.std.proofs.lemmas.List.{length-append, drop-drop, drop_at}
use Rattle.std.proofs.lemmas.Bool.{cases_Bool, true≢false, false≢true, cond-true, cond-false}
use Rattle.track.specs.Circles.{ones, start, before, frames, tens, push, cut}
use Rattle.track.proofs.Cuts.{frames_cut, start_ends}

-- a frame that goes on, one bit on
pub before_tail : (b : Bool) (l g : List Bool) → before (b ∷ l) ≡ b ∷ g → (ones 10 (b ∷ l) ≡ false) × (before l ≡ g)
before_tail b l g e =
    ⊎_elim
    (λ t. let z : [] ≡ b ∷ g = sym (cond-true (ones 10 (b ∷ l)) [] (b ∷ before l) t) ∙ e in cc)
    (λ f. let z : b ∷ before l ≡ b ∷ g = sym (cond-false (ones 10 (b ∷ l)) [] (b ∷ before l) f) ∙ e in let y : before l ≡ g = cc in (f, y))
    (cases_Bool (ones 10 (b ∷ l)))

cut_front : (g y : List Bool) → before (g ++ (tens ++ y)) ≡ g → cut false (g ++ (tens ++ y)) ≡ g ∷ cut true y
cut_front [] y e = refl
cut_front (b ∷ g) y e =
    let h = before_tail b (g ++ (tens ++ y)) g e in
    cond-false (ones 10 (b ∷ (g ++ (tens ++ y)))) ([] ∷ cut true (g ++ (tens ++ y))) (push b (cut false (g ++ (tens ++ y)))) h.0
    ∙ ap (push b) (cut_front g y h.1)

-- its frames: the first, and what syncs cut the rest into
pub first_frame : (g y : List Bool) → get_or g 0 true ≡ false → before (g ++ (tens ++ y)) ≡ g → start (g ++ (tens ++ y)) ≡ true
    → frames (g ++ (tens ++ y)) ≡ g ∷ cut true y
first_frame [] y n e s = absurd (true≢false n)
first_frame (true ∷ g) y n e s = absurd (true≢false n)
first_frame (false ∷ g) y n e s =
    frames_cut (false ∷ (g ++ (tens ++ y))) s ∙ ap (push false) (cut_front g y (before_tail false (g ++ (tens ++ y)) g e).1)

ones_are : (n : ℕ) (l : List Bool) → ones n l ≡ true → l ≡ replicate n true ++ drop n l
ones_are zero l e = refl
ones_are (suc n) [] e = absurd (false≢true e)
ones_are (suc n) (true ∷ l) e = ap (λ (z : List Bool). true ∷ z) (ones_are n l e)
ones_are (suc n) (false ∷ l) e = absurd (false≢true e)

sync_next : (x : List Bool) → (y : List Bool) × (x ++ tens ≡ before (x ++ tens) ++ (tens ++ y))
sync_next [] = ([], refl)
sync_next (b ∷ x) =
    let l : List Bool = x ++ tens in
    ⊎_elim
    (λ t. (drop 10 (b ∷ l), ones_are 10 (b ∷ l) t ∙ ap (λ (z : List Bool). z ++ (tens ++ drop 10 (b ∷ l))) (sym (cond-true (ones 10 (b ∷ l)) [] (b ∷ before l) t))))
    (λ f. let r = sync_next x in
    (r.0, ap (λ (z : List Bool). b ∷ z) r.1 ∙ ap (λ (z : List Bool). z ++ (tens ++ r.0)) (sym (cond-false (ones 10 (b ∷ l)) [] (b ∷ before l) f))))
    (cases_Bool (ones 10 (b ∷ l)))

-- the circle is its first frame, a sync, and more
pub opened : (d : List Bool) → start d ≡ true → (y : List Bool) × (d ≡ before d ++ (tens ++ y)) × (get_or (before d) 0 true ≡ false)
opened [] s = absurd (false≢true s)
opened (true ∷ l) s = absurd (false≢true s)
opened (false ∷ l) s =
    let e = start_ends l s in
    let r = sync_next e.0 in
    (r.0, ap (λ (z : List Bool). false ∷ z) (e.1 ∙ r.1 ∙ ap (λ (z : List Bool). before z ++ (tens ++ r.0)) (sym e.1)), refl)

-- the last ten bits hang on the last part alone
pub tail_same : (g w : List Bool) → 10 ≤ length w → drop (length (g ++ w) - 10) (g ++ w) ≡ drop (length w - 10) w
tail_same g w h =
    ap (λ (k : ℕ). drop k (g ++ w)) (let e = length-append g w in let z : length (g ++ w) - 10 ≡ length g + (length w - 10) = omega arith in z)
    ∙ sym (drop-drop (length w - 10) (length g) (g ++ w)) ∙ ap (drop (length w - 10)) (drop_at g w (length g) refl)

-- another front with the same first bit, before the same rest
pub start_same : (b : Bool) (g h w : List Bool) → 10 ≤ length w → start ((b ∷ g) ++ w) ≡ start ((b ∷ h) ++ w)
start_same b g h w l =
    ap (λ (z : List Bool). not b && ones 10 z) (tail_same (b ∷ g) w l ∙ sym (tail_same (b ∷ h) w l))
