-- Bits put on a circle one by one, and what the loop that puts them keeps.
use Rattle.std.proofs.Common.{◌≡◌, ℕ, suc, ◌+◌, ◌-◌, ◌<◌, ◌≤◌, Bool, false, cond, eqb, List, [], ◌∷◌, ◌++◌, length, get_or, take, drop, set, sym, ap, ◌∙◌, ⊎_elim, arith}
use lib.Seq.{take-set-lt}
use Rattle.std.proofs.lemmas.List.{append_assoc, length-append, length-drop, length-take-le, length-set, drop-append-le, take-append-le, drop_all, drop_more, drop-set-lt, take_more_set}
use Rattle.std.proofs.lemmas.Bool.{cond-true, cond-false, cases_eq, eq-eqb, ne_eqb}
use Rattle.track.specs.Circles.{turned}
use Rattle.track.specs.Laying.{laid_on}
use Rattle.track.proofs.Starts.{turned_over, turned_not}
use Rattle.track.proofs.Turns.{turned_past}
use Rattle.laying.proofs.Places.{around, around_less, around_more}

-- a circle with the bits of l put on it from place p on
abbrev pub put_bits : List Bool → ℕ → List Bool → List Bool
put_bits c p [] = c
put_bits c p (b ∷ l) = put_bits (set c p b) (cond (eqb (suc p) (length c)) 0 (suc p)) l

pub put_more : (n s k j q : ℕ) (A A' L R : List Bool) (b : Bool) → s < n → n ≤ length A → q ≡ around n s k → A' ≡ set A q b → b ≡ get_or L k false → k < length L → length L ≤ n → j ≡ k + 1
    → put_bits (take n A) (around n s k) (drop k L) ≡ R → put_bits (take n A') (around n s j) (drop j L) ≡ R
put_more n s k j q A A' L R b h g x e f l w u v =
    let p : ℕ = around n s k in
    let near : p < n = around_less n s k h (omega arith) in
    let m : take n A' ≡ set (take n A) p b = ap (take n) e ∙ ap (λ (y : ℕ). take n (set A y b)) x ∙ take-set-lt n A p b near in
    let next : around n s j ≡ cond (eqb (suc p) (length (take n A))) 0 (suc p) =
    around_more n s k j h (omega arith) u ∙ ap (λ (y : ℕ). cond (eqb (suc p) y) 0 (suc p)) (sym (length-take-le n A g)) in
    ap (λ (z : List Bool). put_bits z (around n s j) (drop j L)) m
    ∙ ap (λ (y : ℕ). put_bits (set (take n A) p b) y (drop j L)) next
    ∙ ap (λ (y : ℕ). put_bits (set (take n A) p b) (cond (eqb (suc p) (length (take n A))) 0 (suc p)) (drop y L)) u
    ∙ ap (λ (y : Bool). put_bits (take n A) p (y ∷ drop (k + 1) L)) f
    ∙ ap (put_bits (take n A) p) (sym (drop_more L k false l))
    ∙ v

pub put_spare : (n p : ℕ) (A A' Z : List Bool) (b : Bool) → p < n → A' ≡ set A p b → drop n A ≡ Z → drop n A' ≡ Z
put_spare n p A A' Z b h e v = ap (drop n) e ∙ drop-set-lt n A p b h ∙ v

pub put_all : (C L R : List Bool) (p i : ℕ) → length L ≤ i → put_bits C p (drop i L) ≡ R → C ≡ R
put_all C L R p i h v = sym (ap (put_bits C p) (drop_all i L h)) ∙ v

-- one place on
turn_one : (m : ℕ) (b : Bool) (y : List Bool) → m ≤ length y → turned m (y ++ b ∷ []) ≡ turned (suc m) (b ∷ y)
turn_one m b y h =
    ap (λ (z : List Bool). z ++ take m (y ++ b ∷ [])) (drop-append-le m y (b ∷ []) h)
    ∙ ap (λ (z : List Bool). (drop m y ++ b ∷ []) ++ z) (take-append-le m y (b ∷ []) h)
    ∙ append_assoc (drop m y) (b ∷ []) (take m y)

-- bits put one by one are laid
pub put_laid : (l c : List Bool) (p : ℕ) → p < length c → length l ≤ length c → put_bits c p l ≡ laid_on p l c
put_laid [] c p h g =
    sym (ap (λ (k : ℕ). turned k (turned p c)) (let z : length c - p ≡ (length c - p) + 0 = omega arith in z)
    ∙ turned_past 0 p c (omega arith) (omega arith) ∙ turned_not c)
put_laid (b ∷ l) c p h g =
    let n : ℕ = length c in
    let s : List Bool = set c p b in
    let q : ℕ = cond (eqb (suc p) n) 0 (suc p) in
    let D : List Bool = drop (suc p) c ++ take p c in
    let Y : List Bool = l ++ drop (length l) D in
    let ls : length s ≡ n = length-set c p b in
    let lD : length D ≡ n - 1 = length-append (drop (suc p) c) (take p c) ∙ (let x = length-drop (suc p) c in let y = length-take-le p c (omega arith) in omega arith) in
    let lY : length Y ≡ n - 1 = length-append l (drop (length l) D) ∙ (let x = length-drop (length l) D in omega arith) in
    let lYb : length (Y ++ b ∷ []) ≡ n = length-append Y (b ∷ []) ∙ (let z : length Y + 1 ≡ n = omega arith in z) in
    let qs : (q < length s) × (turned q s ≡ turned (suc p) s) × (turned (length s - q) (Y ++ b ∷ []) ≡ turned (n - suc p) (Y ++ b ∷ [])) =
    ⊎_elim
    (λ e. let z : q ≡ 0 = cond-true (eqb (suc p) n) 0 (suc p) (eq-eqb (suc p) n e) in (
      omega arith,
      ap (λ (k : ℕ). turned k s) z ∙ turned_not s ∙ sym (turned_over (suc p) s (omega arith)),
      turned_over (length s - q) (Y ++ b ∷ []) (omega arith) ∙ sym (turned_not (Y ++ b ∷ [])) ∙ ap (λ (k : ℕ). turned k (Y ++ b ∷ [])) (let y : 0 ≡ n - suc p = omega arith in y),
    ))
    (λ e. let z : q ≡ suc p = cond-false (eqb (suc p) n) 0 (suc p) (ne_eqb (suc p) n e) in
    (omega arith, ap (λ (k : ℕ). turned k s) z, ap (λ (k : ℕ). turned k (Y ++ b ∷ [])) (let y : length s - q ≡ n - suc p = omega arith in y)))
    (cases_eq (suc p) n) in
    let t : turned (suc p) s ≡ D ++ b ∷ [] =
    ap (λ (z : List Bool). z ++ take (suc p) s) (drop-set-lt (suc p) c p b (omega arith))
    ∙ ap (λ (z : List Bool). drop (suc p) c ++ z) (ap (λ (k : ℕ). take k s) (let z : suc p ≡ p + 1 = omega arith in z) ∙ take_more_set c p b h)
    ∙ sym (append_assoc (drop (suc p) c) (take p c) (b ∷ [])) in
    let u : turned p c ≡ get_or c p false ∷ D =
    ap (λ (z : List Bool). z ++ take p c) (drop_more c p false h ∙ ap (λ (k : ℕ). get_or c p false ∷ drop k c) (let z : p + 1 ≡ suc p = omega arith in z)) in
    put_laid l s q qs.0 (omega arith)
    ∙ ap (λ (z : List Bool). turned (length s - q) (l ++ drop (length l) z)) (qs.1 ∙ t)
    ∙ ap (λ (z : List Bool). turned (length s - q) (l ++ z)) (drop-append-le (length l) D (b ∷ []) (omega arith))
    ∙ ap (turned (length s - q)) (sym (append_assoc l (drop (length l) D) (b ∷ [])))
    ∙ qs.2
    ∙ turn_one (n - suc p) b Y (omega arith)
    ∙ ap (λ (k : ℕ). turned k (b ∷ Y)) (let z : suc (n - suc p) ≡ n - p = omega arith in z)
    ∙ ap (λ (z : List Bool). turned (n - p) ((b ∷ l) ++ drop (suc (length l)) z)) (sym u)
