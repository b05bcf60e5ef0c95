use Rattle.std.proofs.Common.{◌≡◌, ℕ, zero, suc, ◌+◌, ◌-◌, ◌<◌, ◌≤◌, Bool, true, false, cond, not, ◌&&◌, ◌⊎◌, List, [], ◌∷◌, ◌++◌, length, get_or, take, drop, replicate, sym, refl, ap, ◌∙◌, subst, inl, inr, ⊎_elim, arith}
use Rattle.std.proofs.lemmas.List.{append_assoc, append-nil, drop_at, get_or_at, get_or-drop, length-append, length_push, length-replicate, replicate_more, length-drop, take-append-drop}
use Rattle.std.proofs.Math.Bool.{and-false}
use Rattle.std.proofs.lemmas.Bool.{cases_lt, cases_Bool, true≢false, false≢true}
use Rattle.track.specs.Circles.{ones, start, before, frames_from, frames, tens, push, cut}
use Rattle.track.specs.Reading.{head_or}
use Rattle.track.proofs.Turns.{turned_swap}

abbrev pub tails : List (List Bool) → List (List Bool)
tails [] = []
tails (f ∷ fs) = fs

pub ones_front : (n : ℕ) (l y : List Bool) → n ≤ length l → ones n (l ++ y) ≡ ones n l
ones_front zero l y h = refl
ones_front (suc n) [] y h = absurd (let z : ⊥ = omega arith in z)
ones_front (suc n) (b ∷ l) y h = ap (λ (c : Bool). b && c) (ones_front n l y (omega arith))

-- what is pushed onto a frame that is there
push_some : (b : Bool) (o : List (List Bool)) → push b o ≡ head_or [] (push b o) ∷ tails (push b o)
push_some b [] = refl
push_some b (f ∷ fs) = refl

cut_some : (l : List Bool) → cut false l ≡ head_or [] (cut false l) ∷ tails (cut false l)
cut_some [] = refl
cut_some (b ∷ l) =
    elim (ones 10 (b ∷ l)) as (λ v. cond v ([] ∷ cut true l) (push b (cut false l)) ≡ head_or [] (cond v ([] ∷ cut true l) (push b (cut false l))) ∷ tails (cond v ([] ∷ cut true l) (push b (cut false l))))
    [ true ↦ refl | false ↦ push_some b (cut false l) ]

push_append : (b : Bool) (l : List Bool) (gs : List (List Bool)) → push b (cut false l ++ gs) ≡ push b (cut false l) ++ gs
push_append b l gs =
    ap (λ (o : List (List Bool)). push b (o ++ gs)) (cut_some l) ∙ ap (λ (o : List (List Bool)). push b o ++ gs) (sym (cut_some l))

-- a sync parts the frames before it from those after it
pub cut_append : (m : Bool) (x y : List Bool) → cut m (x ++ (tens ++ y)) ≡ cut m (x ++ tens) ++ cut true y
cut_append true [] y = refl
cut_append false [] y = refl
cut_append true (true ∷ x) y = cut_append true x y
cut_append true (false ∷ x) y = ap (push false) (cut_append false x y) ∙ push_append false (x ++ tens) (cut true y)
cut_append false (b ∷ x) y =
    ap (λ (v : Bool). cond v ([] ∷ cut true (x ++ (tens ++ y))) (push b (cut false (x ++ (tens ++ y)))))
    (ap (λ (z : List Bool). ones 10 (b ∷ z)) (sym (append_assoc x tens y))
    ∙ ones_front 10 (b ∷ (x ++ tens)) y (let e = length-append x tens in omega arith))
    ∙ elim (ones 10 (b ∷ (x ++ tens))) as (λ v. cond v ([] ∷ cut true (x ++ (tens ++ y))) (push b (cut false (x ++ (tens ++ y))))
    ≡ cond v ([] ∷ cut true (x ++ tens)) (push b (cut false (x ++ tens))) ++ cut true y) [
      | true ↦ ap (λ (o : List (List Bool)). [] ∷ o) (cut_append true x y)
      | false ↦ ap (push b) (cut_append false x y) ∙ push_append b (x ++ tens) (cut true y)
    ]

push_head : (b : Bool) (o : List (List Bool)) → head_or [] (push b o) ≡ b ∷ head_or [] o
push_head b [] = refl
push_head b (f ∷ fs) = refl

push_tails : (b : Bool) (o : List (List Bool)) → tails (push b o) ≡ tails o
push_tails b [] = refl
push_tails b (f ∷ fs) = refl

-- the frame before the first sync, whatever follows that
pub before_cut : (x y : List Bool) → before ((x ++ tens) ++ y) ≡ head_or [] (cut false (x ++ tens))
before_cut [] y = refl
before_cut (b ∷ x) y =
    ap (λ (v : Bool). cond v [] (b ∷ before ((x ++ tens) ++ y))) (ones_front 10 (b ∷ (x ++ tens)) y (let e = length-append x tens in omega arith))
    ∙ elim (ones 10 (b ∷ (x ++ tens))) as (λ v. cond v [] (b ∷ before ((x ++ tens) ++ y)) ≡ head_or [] (cond v ([] ∷ cut true (x ++ tens)) (push b (cut false (x ++ tens)))))
    [ true ↦ refl | false ↦ ap (λ (f : List Bool). b ∷ f) (before_cut x y) ∙ sym (push_head b (cut false (x ++ tens))) ]

pub ones_false : (n i : ℕ) (a : List Bool) → i < n → get_or a i false ≡ false → ones n a ≡ false
ones_false zero i a h e = absurd (let z : ⊥ = omega arith in z)
ones_false (suc n) i [] h e = refl
ones_false (suc n) zero (b ∷ l) h e = ap (λ (c : Bool). c && ones n l) e
ones_false (suc n) (suc i) (b ∷ l) h e = ap (λ (c : Bool). b && c) (ones_false n i l (omega arith) e) ∙ and-false b

-- behind ten ones a zero begins a frame
start_after : (z : List Bool) → start (false ∷ (z ++ tens)) ≡ true
start_after z =
    ap (λ (a : List Bool). ones 10 a) (drop_at (false ∷ z) tens (length (false ∷ (z ++ tens)) - 10) (let e = length-append z tens in omega arith))

-- behind a zero and fewer than ten ones nothing begins
start_inside : (j : ℕ) (b : Bool) (z : List Bool) → j < 10 → start (b ∷ (z ++ (false ∷ replicate j true))) ≡ false
start_inside j b z h =
    let A : List Bool = b ∷ (z ++ (false ∷ replicate j true)) in
    let e : length (z ++ (false ∷ replicate j true)) ≡ length z + suc (length (replicate j true)) = length-append z (false ∷ replicate j true) in
    let r : length (replicate j true) ≡ j = length-replicate j true in
    let n : length A ≡ suc (suc (length z + j)) = omega arith in
    let i : ℕ = suc (length z) - (length A - 10) in
    let k : (length A - 10) + i ≡ suc (length z) = omega arith in
    ap (λ (v : Bool). not b && v)
    (ones_false 10 i (drop (length A - 10) A) (omega arith)
    (get_or-drop (length A - 10) A i false ∙ ap (λ (q : ℕ). get_or A q false) k ∙ get_or_at (b ∷ z) false (replicate j true) false (suc (length z)) refl))
    ∙ last (not b)
  where
    last : (b : Bool) → (b && false) ≡ false
    last true = refl
    last false = refl

-- the frames that begin in l, of the circle q ++ l
abbrev from : List Bool → List Bool → List (List Bool)
from q l = frames_from (q ++ l) (length q) (length l)

from_step : (q : List Bool) (b : Bool) (l : List Bool)
    → from q (b ∷ l) ≡ cond (start (b ∷ (l ++ q))) (before (b ∷ (l ++ q)) ∷ from (q ++ b ∷ []) l) (from (q ++ b ∷ []) l)
from_step q b l =
    let e : frames_from (q ++ b ∷ l) (suc (length q)) (length l) ≡ from (q ++ b ∷ []) l =
    ap (λ (c : List Bool). frames_from c (suc (length q)) (length l)) (sym (append_assoc q (b ∷ []) l))
    ∙ ap (λ (p : ℕ). frames_from ((q ++ b ∷ []) ++ l) p (length l)) (let m = length_push q b in let z : suc (length q) ≡ length (q ++ b ∷ []) = omega arith in z) in
    ap (λ (a : List Bool). cond (start a) (before a ∷ frames_from (q ++ b ∷ l) (suc (length q)) (length l)) (frames_from (q ++ b ∷ l) (suc (length q)) (length l))) (turned_swap q (b ∷ l))
    ∙ ap (λ (r : List (List Bool)). cond (start (b ∷ (l ++ q))) (before (b ∷ (l ++ q)) ∷ r) r) e

-- a zero has a sync behind it
abbrev pub Ends : List Bool → Type 0
Ends [] = Unit {0}
Ends (true ∷ l) = Ends l
Ends (false ∷ l) = (x : List Bool) × (l ≡ x ++ tens)

ends_tens : (x : List Bool) → Ends (x ++ tens)
ends_tens [] = tt
ends_tens (true ∷ x) = ends_tens x
ends_tens (false ∷ x) = (x, refl)

ends_next : (b : Bool) (l : List Bool) → Ends (b ∷ l) → Ends l
ends_next true l e = e
ends_next false l e = let P : List Bool → Type 0 = λ z. Ends z in subst P (sym e.1) (ends_tens e.0)

-- where a pass stands: after a sync, in a frame after j ones, or in a sync of which j ones were passed
data State : Type 0 where
  synced : List Bool → State
  framed : List Bool → ℕ → State
  passing : List Bool → ℕ → State

abbrev passed : State → List Bool
passed (synced q) = q ++ tens
passed (framed q j) = q ++ (false ∷ replicate j true)
passed (passing q j) = q ++ (false ∷ replicate j true)

abbrev Right : State → List Bool → Type 0
Right (synced q) l = Unit {0}
Right (framed q j) l = (j < 10) × ((j ≡ 0) ⊎ (ones (10 - j) l ≡ false))
Right (passing q j) l = (j < 10) × (ones (10 - j) l ≡ true)

abbrev out : State → List Bool → List (List Bool)
out (synced q) l = cut true l
out (framed q j) l = tails (cut false l)
out (passing q j) l = cut true l

one_more : (q : List Bool) (j : ℕ) → (q ++ (false ∷ replicate j true)) ++ (true ∷ []) ≡ q ++ (false ∷ replicate (suc j) true)
one_more q j =
    append_assoc q (false ∷ replicate j true) (true ∷ [])
    ∙ ap (λ (r : List Bool). q ++ (false ∷ r)) (replicate_more j true ∙ ap (λ (n : ℕ). replicate n true) (let z : j + 1 ≡ suc j = omega arith in z))

pub ones_fewer : (m n : ℕ) (l : List Bool) → m ≤ n → ones n l ≡ true → ones m l ≡ true
ones_fewer zero n l h e = refl
ones_fewer (suc m) zero l h e = absurd (let z : ⊥ = omega arith in z)
ones_fewer (suc m) (suc n) [] h e = e
ones_fewer (suc m) (suc n) (true ∷ l) h e = ones_fewer m n l (omega arith) e
ones_fewer (suc m) (suc n) (false ∷ l) h e = e

ones_next : (j : ℕ) (l : List Bool) → j < 10 → ones (10 - j) (true ∷ l) ≡ ones (9 - j) l
ones_next j l h = ap (λ (n : ℕ). ones n (true ∷ l)) (let z : 10 - j ≡ suc (9 - j) = omega arith in z)

run : (s : State) (l : List Bool) → Right s l → Ends l → from (passed s) l ≡ out s l
run (synced q) [] r e = refl
run (framed q j) [] r e = refl
run (passing q j) [] r e = refl
run (synced q) (true ∷ l) r e =
    from_step (q ++ tens) true l
    ∙ ap (λ (z : List Bool). from z l) (append_assoc q tens (true ∷ []) ∙ sym (append_assoc q (true ∷ []) tens))
    ∙ run (synced (q ++ true ∷ [])) l tt e
run (synced q) (false ∷ l) r e =
    let w : l ≡ e.0 ++ tens = e.1 in
    let b : before (l ++ (q ++ tens)) ≡ head_or [] (cut false l) =
    ap (λ (z : List Bool). before (z ++ (q ++ tens))) w ∙ before_cut e.0 (q ++ tens) ∙ ap (λ (z : List Bool). head_or [] (cut false z)) (sym w) in
    let s : start (false ∷ (l ++ (q ++ tens))) ≡ true = ap (λ (z : List Bool). start (false ∷ z)) (sym (append_assoc l q tens)) ∙ start_after (l ++ q) in
    from_step (q ++ tens) false l
    ∙ ap (λ (v : Bool). cond v ((false ∷ before (l ++ (q ++ tens))) ∷ from ((q ++ tens) ++ false ∷ []) l) (from ((q ++ tens) ++ false ∷ []) l)) s
    ∙ ap (λ (o : List (List Bool)). (false ∷ before (l ++ (q ++ tens))) ∷ o) (run (framed (q ++ tens) 0) l (omega arith, inl refl) (ends_next false l e))
    ∙ ap (λ (f : List Bool). (false ∷ f) ∷ tails (cut false l)) b
    ∙ ap (push false) (sym (cut_some l))
run (framed q j) (false ∷ l) r e =
    let p : List Bool = q ++ (false ∷ replicate j true) in
    let s : start (false ∷ (l ++ p)) ≡ false = ap (λ (z : List Bool). start (false ∷ z)) (sym (append_assoc l q (false ∷ replicate j true))) ∙ start_inside j false (l ++ q) r.0 in
    from_step p false l
    ∙ ap (λ (v : Bool). cond v (before (false ∷ (l ++ p)) ∷ from (p ++ false ∷ []) l) (from (p ++ false ∷ []) l)) s
    ∙ run (framed p 0) l (omega arith, inl refl) (ends_next false l e)
    ∙ sym (push_tails false (cut false l))
run (framed q j) (true ∷ l) r e =
    from_step (q ++ (false ∷ replicate j true)) true l
    ∙ ap (λ (z : List Bool). from z l) (one_more q j)
    ∙ ⊎_elim
    (λ t. ⊎_elim
    (λ z. ap (λ (n : ℕ). from (q ++ (false ∷ replicate (suc n) true)) l) z
    ∙ run (passing q 1) l (omega arith, t) e
    ∙ ap (λ (v : Bool). tails (cond v ([] ∷ cut true l) (push true (cut false l)))) (sym t))
    (λ f. absurd (true≢false (sym (ones_fewer (10 - j) 10 (true ∷ l) (omega arith) t) ∙ f)))
    r.1)
    (λ t. let v : (suc j < 10) × (ones (10 - suc j) l ≡ false) = ⊎_elim
    (λ z. (omega arith, ap (λ (n : ℕ). ones (10 - suc n) l) z ∙ t))
    (λ f. let g : ones (9 - j) l ≡ false = sym (ones_next j l r.0) ∙ f in
    let k : suc j < 10 = ⊎_elim (λ a. a) (λ a. absurd (true≢false (ap (λ (n : ℕ). ones n l) (let z : 0 ≡ 9 - j = omega arith in z) ∙ g))) (cases_lt (suc j) 10) in
    (k, ap (λ (n : ℕ). ones n l) (let z : 10 - suc j ≡ 9 - j = omega arith in z) ∙ g))
    r.1 in
    run (framed q (suc j)) l (v.0, inr v.1) e
    ∙ sym (push_tails true (cut false l))
    ∙ ap (λ (b : Bool). tails (cond b ([] ∷ cut true l) (push true (cut false l)))) (sym t))
    (cases_Bool (ones 9 l))
run (passing q j) (false ∷ l) r e =
    absurd (false≢true (ap (λ (n : ℕ). ones n (false ∷ l)) (let z : suc (9 - j) ≡ 10 - j = omega arith in z) ∙ r.1))
run (passing q j) (true ∷ l) r e =
    from_step (q ++ (false ∷ replicate j true)) true l
    ∙ ap (λ (z : List Bool). from z l) (one_more q j)
    ∙ ⊎_elim
    (λ k. run (passing q (suc j)) l (k, ap (λ (n : ℕ). ones n l) (let z : 10 - suc j ≡ 9 - j = omega arith in z) ∙ sym (ones_next j l r.0) ∙ r.1) e)
    (λ k. ap (λ (n : ℕ). from (q ++ (false ∷ replicate n true)) l) (let h = r.0 in let z : suc j ≡ 10 = omega arith in z)
    ∙ ap (λ (z : List Bool). from z l) (sym (append_assoc q (false ∷ []) tens))
    ∙ run (synced (q ++ false ∷ [])) l tt e)
    (cases_lt (suc j) 10)

pub ones_all : (n : ℕ) (a : List Bool) → ones n a ≡ true → length a ≡ n → a ≡ replicate n true
ones_all zero [] e h = refl
ones_all zero (b ∷ l) e h = absurd (let z : ⊥ = omega arith in z)
ones_all (suc n) [] e h = absurd (false≢true e)
ones_all (suc n) (true ∷ l) e h = ap (λ (r : List Bool). true ∷ r) (ones_all n l e (omega arith))
ones_all (suc n) (false ∷ l) e h = absurd (false≢true e)

ones_length : (n : ℕ) (a : List Bool) → ones n a ≡ true → n ≤ length a
ones_length zero a e = omega arith
ones_length (suc n) [] e = absurd (false≢true e)
ones_length (suc n) (true ∷ l) e = let h = ones_length n l e in omega arith
ones_length (suc n) (false ∷ l) e = absurd (false≢true e)

-- a circle that begins behind a sync ends with it
pub start_ends : (l : List Bool) → start (false ∷ l) ≡ true → Ends (false ∷ l)
start_ends l s =
    let n = ones_length 10 (drop (length (false ∷ l) - 10) (false ∷ l)) s in
    let m = length-drop (length (false ∷ l) - 10) (false ∷ l) in
    let t : drop (length (false ∷ l) - 10) (false ∷ l) ≡ tens = ones_all 10 (drop (length (false ∷ l) - 10) (false ∷ l)) s (omega arith) in
    ⊎_elim
    (λ k. absurd (false≢true (ap (λ (a : List Bool). get_or a 0 true) (ap (λ (i : ℕ). drop i (false ∷ l)) (let z : 0 ≡ length (false ∷ l) - 10 = omega arith in z) ∙ t))))
    (λ k. let i : length (false ∷ l) - 10 ≡ suc (length l - 10) = omega arith in (
      take (length l - 10) l,
      sym (take-append-drop (length l - 10) l) ∙ ap (λ (z : List Bool). take (length l - 10) l ++ z) (ap (λ (j : ℕ). drop j (false ∷ l)) (sym i) ∙ t),
    ))
    (cases_lt (length l) 10)

-- the frames of a circle that begins behind a sync are its pieces
pub frames_cut : (c : List Bool) → start c ≡ true → frames c ≡ cut true c
frames_cut [] s = absurd (false≢true s)
frames_cut (true ∷ l) s = absurd (false≢true s)
frames_cut (false ∷ l) s =
    let e = start_ends l s in
    let w : l ≡ e.0 ++ tens = e.1 in
    let b : before (l ++ []) ≡ head_or [] (cut false l) =
    ap (λ (z : List Bool). before (z ++ [])) w ∙ before_cut e.0 [] ∙ ap (λ (z : List Bool). head_or [] (cut false z)) (sym w) in
    from_step [] false l
    ∙ ap (λ (z : List Bool). cond (start (false ∷ z)) ((false ∷ before (l ++ [])) ∷ from (false ∷ []) l) (from (false ∷ []) l)) (append-nil l)
    ∙ ap (λ (v : Bool). cond v ((false ∷ before (l ++ [])) ∷ from (false ∷ []) l) (from (false ∷ []) l)) s
    ∙ ap (λ (o : List (List Bool)). (false ∷ before (l ++ [])) ∷ o) (run (framed [] 0) l (omega arith, inl refl) (ends_next false l e))
    ∙ ap (λ (f : List Bool). (false ∷ f) ∷ tails (cut false l)) b
    ∙ ap (push false) (sym (cut_some l))
