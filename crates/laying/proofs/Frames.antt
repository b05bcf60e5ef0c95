-- Bits that can stand as a frame.
use Rattle.std.proofs.Common.{◌≡◌, ℕ, zero, suc, ◌+◌, ◌-◌, ◌<◌, ◌≤◌, Bool, true, false, not, List, [], ◌∷◌, ◌++◌, length, get_or, take, drop, sym, refl, ap, ◌∙◌, ⊎_elim, arith}
use Rattle.std.proofs.lemmas.List.{append_assoc, length-append, get_or-drop, get_or_at, length-drop, length-take-le}
use Rattle.std.proofs.lemmas.Bool.{cases_Bool, cases_lt, and_right, true≢false, false≢true, cond-false}
use Rattle.track.specs.Circles.{ones, start, before, tens}
use Rattle.track.specs.Places.{last_or}
use Rattle.track.proofs.Cuts.{ones_front, ones_false}
use Rattle.track.proofs.Turns.{drop_in_take}
use Rattle.laying.specs.Laws.{Framed}
use Rattle.laying.proofs.Fronts.{before_tail, tail_same}

-- ones that are there stay where more follows
ones_longer : (n : ℕ) (l w : List Bool) → ones n l ≡ true → ones n (l ++ w) ≡ true
ones_longer zero l w e = refl
ones_longer (suc n) [] w e = absurd (false≢true e)
ones_longer (suc n) (true ∷ l) w e = ones_longer n l w e
ones_longer (suc n) (false ∷ l) w e = absurd (false≢true e)

ones_shorter : (n : ℕ) (l w : List Bool) → ones n (l ++ w) ≡ false → ones n l ≡ false
ones_shorter n l w e = ⊎_elim (λ t. absurd (true≢false (sym (ones_longer n l w t) ∙ e))) (λ f. f) (cases_Bool (ones n l))

-- bits that end with a zero are not all ones
ends_zero : (b : Bool) (l w : List Bool) (n : ℕ) → last_or true (b ∷ l) ≡ false → length (b ∷ l) ≤ n → ones n ((b ∷ l) ++ w) ≡ false
ends_zero b l w zero e h = absurd (omega arith)
ends_zero false l w (suc n) e h = refl
ends_zero true [] w (suc n) e h = absurd (true≢false e)
ends_zero true (c ∷ l) w (suc n) e h = ends_zero c l w n e (omega arith)

-- before other bits such a frame goes on to its end
pub before_on : (x w : List Bool) → last_or false x ≡ false → before x ≡ x → before (x ++ w) ≡ x ++ before w
before_on [] w e h = refl
before_on (b ∷ x) w e h =
    let t = before_tail b x x h in
    let q : ones 10 ((b ∷ x) ++ w) ≡ false =
    ⊎_elim (λ l. ends_zero b x w 10 e (omega arith)) (λ l. ones_front 10 (b ∷ x) w l ∙ t.0) (cases_lt (length (b ∷ x)) 10) in
    cond-false (ones 10 ((b ∷ x) ++ w)) [] (b ∷ before (x ++ w)) q ∙ ap (λ (z : List Bool). b ∷ z) (before_on x w (later b x e) t.1)
  where
    later : (b : Bool) (x : List Bool) → last_or b x ≡ false → last_or false x ≡ false
    later b [] e = refl
    later b (c ∷ x) e = e

pub framed_last : (x : List Bool) → last_or true x ≡ false → last_or false x ≡ false
framed_last [] e = refl
framed_last (b ∷ x) e = e

-- a frame that ends where a sync begins can stand as one
ends_before : (b : Bool) (g y : List Bool) → before ((b ∷ g) ++ (tens ++ y)) ≡ b ∷ g → last_or true (b ∷ g) ≡ false
ends_before true [] y e = absurd (true≢false (before_tail true (tens ++ y) [] e).0)
ends_before false [] y e = refl
ends_before b (c ∷ g) y e = ends_before c g y (before_tail b ((c ∷ g) ++ (tens ++ y)) (c ∷ g) e).1

before_itself : (g w : List Bool) → before (g ++ w) ≡ g → before g ≡ g
before_itself [] w e = refl
before_itself (b ∷ g) w e =
    let t = before_tail b (g ++ w) g e in
    cond-false (ones 10 (b ∷ g)) [] (b ∷ before g) (ones_shorter 10 (b ∷ g) w t.0) ∙ ap (λ (z : List Bool). b ∷ z) (before_itself g w t.1)

pub framed : (g y : List Bool) → get_or g 0 true ≡ false → before (g ++ (tens ++ y)) ≡ g → Framed g
framed [] y n e = absurd (true≢false n)
framed (b ∷ g) y n e = record { begins = n; ends = ends_before b g y e; holds = before_itself (b ∷ g) (tens ++ y) e }

-- ten ones stand nowhere in it
tenless : (x : List Bool) (k : ℕ) → before x ≡ x → ones 10 (drop k x) ≡ false
tenless [] zero h = refl
tenless [] (suc k) h = refl
tenless (b ∷ x) zero h = (before_tail b x x h).0
tenless (b ∷ x) (suc k) h = tenless x k (before_tail b x x h).1

-- behind a zero and fewer than ten bits nothing begins
pub start_zero : (a v : List Bool) → length v < 10 → start (a ++ false ∷ v) ≡ false
start_zero a v h =
    let A : List Bool = a ++ false ∷ v in
    let n : length A ≡ length a + suc (length v) = length-append a (false ∷ v) in
    let i : ℕ = length a - (length A - 10) in
    let k : (length A - 10) + i ≡ length a = omega arith in
    and_right (not (get_or A 0 false)) _
    (ones_false 10 i (drop (length A - 10) A) (omega arith)
    (get_or-drop (length A - 10) A i false ∙ ap (λ (q : ℕ). get_or A q false) k ∙ get_or_at a false v false (length a) refl))

take_begins : (i : ℕ) (x : List Bool) → get_or x 0 true ≡ false → 0 < i → (v : List Bool) × (take i x ≡ false ∷ v)
take_begins zero x n h = absurd (omega arith)
take_begins (suc i) [] n h = absurd (true≢false n)
take_begins (suc i) (true ∷ x) n h = absurd (true≢false n)
take_begins (suc i) (false ∷ x) n h = (take i x, refl)

-- inside such bits nothing begins
pub start_inside : (i : ℕ) (x a : List Bool) → Framed x → 0 < i → i ≤ length x → start (a ++ take i x) ≡ false
start_inside i x a F h l =
    let m : length (take i x) ≡ i = length-take-le i x l in
    ⊎_elim
    (λ s. let t = take_begins i x F.begins h in
    let n : suc (length t.0) ≡ i = sym (ap length t.1) ∙ m in
    ap (λ (z : List Bool). start (a ++ z)) t.1 ∙ start_zero a t.0 (omega arith))
    (λ s. let k : ℕ = i - 10 in
    let n : length (drop k (take i x)) ≡ 10 = length-drop k (take i x) ∙ (let z : length (take i x) - k ≡ 10 = omega arith in z) in
    let q : ones 10 (drop (length (take i x) - 10) (take i x)) ≡ false =
    ap (λ (j : ℕ). ones 10 (drop (j - 10) (take i x))) m
    ∙ sym (ones_front 10 (drop k (take i x)) (drop i x) (omega arith))
    ∙ ap (ones 10) (drop_in_take k i x (omega arith)) ∙ tenless x k F.holds in
    and_right (not (get_or (a ++ take i x) 0 false)) _ (ap (ones 10) (tail_same a (take i x) (omega arith)) ∙ q))
    (cases_lt i 11)

-- a list is its last element behind the others
pub last_split : {X : Type 0} (x : X) (xs : List X) → (ys : List X) × (x ∷ xs ≡ ys ++ last_or x xs ∷ [])
last_split x [] = ([], refl)
last_split x (y ∷ xs) = let r = last_split y xs in (x ∷ r.0, ap (λ z. x ∷ z) r.1)

-- nor right behind them
pub start_behind : (x a v : List Bool) → last_or true x ≡ false → length v < 10 → start (a ++ (x ++ v)) ≡ false
start_behind [] a v e h = absurd (true≢false e)
start_behind (b ∷ x) a v e h =
    let r = last_split b x in
    ap (λ (z : List Bool). start (a ++ (z ++ v))) (r.1 ∙ ap (λ (c : Bool). r.0 ++ c ∷ []) e)
    ∙ ap (λ (z : List Bool). start (a ++ z)) (append_assoc r.0 (false ∷ []) v)
    ∙ ap start (sym (append_assoc a r.0 (false ∷ v)))
    ∙ start_zero (a ++ r.0) v h

-- a later part of such bits
pub record Rest (r : List Bool) : Type 0 where
  pub ends : last_or false r ≡ false
  pub holds : before r ≡ r

last_drop : (k : ℕ) (d : Bool) (g : List Bool) → last_or d g ≡ false → last_or false (drop k g) ≡ false
last_drop zero d [] e = refl
last_drop zero d (b ∷ g) e = e
last_drop (suc k) d [] e = refl
last_drop (suc k) d (b ∷ g) e = last_drop k b g e

before_drop : (k : ℕ) (g : List Bool) → before g ≡ g → before (drop k g) ≡ drop k g
before_drop zero g e = e
before_drop (suc k) [] e = e
before_drop (suc k) (b ∷ g) e = before_drop k g (before_tail b g g e).1

pub framed_rest : (k : ℕ) (g : List Bool) → Framed g → Rest (drop k g)
framed_rest k g F = record { ends = last_drop k true g F.ends; holds = before_drop k g F.holds }

last_join : (d : Bool) (l r : List Bool) → last_or d l ≡ false → last_or false r ≡ false → last_or d (l ++ r) ≡ false
last_join d [] [] e f = e
last_join d [] (b ∷ r) e f = f
last_join d (b ∷ l) r e f = last_join b l r e f

-- such bits before the rest of others
pub framed_join : (l r : List Bool) → get_or (l ++ r) 0 true ≡ false → last_or true l ≡ false → before (l ++ r) ≡ l ++ before r → Rest r → Framed (l ++ r)
framed_join l r b e h R =
    record { begins = b; ends = last_join true l r e R.ends; holds = h ∙ ap (λ (z : List Bool). l ++ z) R.holds }
