-- Laying on a circle that is turned.
use Rattle.std.proofs.Common.{◌≡◌, ℕ, ◌+◌, ◌-◌, ◌<◌, ◌≤◌, Bool, List, length, drop, sym, ap, ◌∙◌, arith}
use Rattle.std.proofs.lemmas.List.{length-append, length-drop}
use Rattle.track.specs.Circles.{turned}
use Rattle.track.specs.Fetching.{laid}
use Rattle.track.specs.Laying.{laid_on}
use Rattle.track.proofs.Circles.{length_turned}
use Rattle.track.proofs.Turns.{turned_turned, turned_past}

pub length_laid : {X : Type 0} (l d : List X) → length l ≤ length d → length (laid l d) ≡ length d
length_laid l d h = length-append l (drop (length l) d) ∙ (let e = length-drop (length l) d in omega arith)

-- laying keeps the number of bits
pub length_laid_on : (p : ℕ) (l c : List Bool) → length l ≤ length c → length (laid_on p l c) ≡ length c
length_laid_on p l c h =
    let e = length_turned p c in
    length_turned (length c - p) (laid l (turned p c)) ∙ length_laid l (turned p c) (omega arith) ∙ e

-- i places on from k, going round, is a
turned_low : {X : Type 0} (c : List X) (k i a : ℕ) → k < length c → i < length c - k → a ≡ k + i → turned i (turned k c) ≡ turned a c
turned_low c k i a h g e = turned_turned i k c (omega arith) ∙ ap (λ (j : ℕ). turned j c) (sym e)

turned_high : {X : Type 0} (c : List X) (k i a : ℕ) → k < length c → i ≤ length c → length c - k ≤ i → a ≡ i - (length c - k) → turned i (turned k c) ≡ turned a c
turned_high c k i a h m g e =
    ap (λ (j : ℕ). turned j (turned k c)) (let z : i ≡ (length c - k) + a = omega arith in z) ∙ turned_past a k c (omega arith) (omega arith)

-- at place p of the circle turned by k, which is place q of the circle
pub laid_turned_low : (c l : List Bool) (k p q : ℕ) → length l ≤ length c → k < length c → p < length c - k → q ≡ k + p → turned k (laid_on q l c) ≡ laid_on p l (turned k c)
laid_turned_low c l k p q h g f e =
    let n : ℕ = length c in
    let E : List Bool = laid l (turned q c) in
    let x = length_turned q c in
    let m : length E ≡ n = length_laid l (turned q c) (omega arith) ∙ x in
    let s : length (turned k c) ≡ n = length_turned k c in
    turned_turned k (n - q) E (omega arith)
    ∙ ap (λ (i : ℕ). turned i E) (let z : (n - q) + k ≡ length (turned k c) - p = omega arith in z)
    ∙ ap (λ (z : List Bool). turned (length (turned k c) - p) (laid l z)) (sym (turned_low c k p q g f e))

pub laid_turned_high : (c l : List Bool) (k p q : ℕ) → length l ≤ length c → k < length c → p < length c → length c - k ≤ p → q ≡ p - (length c - k) → turned k (laid_on q l c) ≡ laid_on p l (turned k c)
laid_turned_high c l k p q h g i f e =
    let n : ℕ = length c in
    let E : List Bool = laid l (turned q c) in
    let x = length_turned q c in
    let m : length E ≡ n = length_laid l (turned q c) (omega arith) ∙ x in
    let s : length (turned k c) ≡ n = length_turned k c in
    ap (λ (j : ℕ). turned j (turned (n - q) E)) (let z : k ≡ (length E - (n - q)) + (n - p) = omega arith in z)
    ∙ turned_past (n - p) (n - q) E (omega arith) (omega arith)
    ∙ ap (λ (j : ℕ). turned j E) (let z : n - p ≡ length (turned k c) - p = omega arith in z)
    ∙ ap (λ (z : List Bool). turned (length (turned k c) - p) (laid l z)) (sym (turned_high c k p q g (omega arith) f e))
