use Rattle.std.proofs.Common.{◌≡◌, ℕ, zero, suc, ◌+◌, ◌-◌, ◌*◌, ◌^◌, ◌<◌, ◌≤◌, Bool, eqb, List, [], ◌∷◌, ◌++◌, length, take, drop, sym, refl, ap, ◌∙◌, ⊎_elim, arith, pow_pos}
use lib.Seq.{take-append-add}
use Rattle.std.proofs.lemmas.List.{append_assoc, append-nil, take_at}
use Rattle.std.proofs.lemmas.Bool.{cond-true, cond-false, cases_eq, eq-eqb, ne_eqb}
use Rattle.gcr.specs.Bits.{bits, bits_of, and_bit}
use Rattle.gcr.proofs.Bits.{bits_append, bits_more, length_bits}
use Rattle.track.specs.Circles.{circle_of}
use Rattle.track.specs.Fetching.{pack, packed, laid}

-- a byte filled with zeros begins with its bits
bits_filled : (k n : ℕ) → k ≤ 8 → bits 8 (n * 2 ^ (8 - k)) ≡ bits k n ++ bits (8 - k) 0
bits_filled k n h =
    ap (λ (i : ℕ). bits i (n * 2 ^ (8 - k))) (let e : 8 ≡ k + (8 - k) = omega arith in e)
    ∙ ap (λ (m : ℕ). bits (k + (8 - k)) m) (let e : n * 2 ^ (8 - k) ≡ n * 2 ^ (8 - k) + 0 = omega arith in e)
    ∙ bits_append k (8 - k) n 0 (pow_pos (8 - k))

ended : (k n : ℕ) (r : List ℕ) → k < 8 → take (k + 0) (bits_of (packed k n [] ++ r)) ≡ bits k n ++ []
ended zero n r h = refl
ended (suc k) n r h =
    ap (λ (x : List ℕ). take (suc k + 0) (bits_of (x ++ r))) (cond-false (eqb (suc k) 0) [] (n * 2 ^ (8 - suc k) ∷ []) (ne_eqb (suc k) 0 (λ e. omega arith)))
    ∙ ap (λ (x : List Bool). take (suc k + 0) (x ++ bits_of r)) (bits_filled (suc k) n (omega arith))
    ∙ ap (take (suc k + 0)) (append_assoc (bits (suc k) n) (bits (8 - suc k) 0) (bits_of r))
    ∙ take_at (bits (suc k) n) (bits (8 - suc k) 0 ++ bits_of r) (suc k + 0) (length_bits (suc k) n ∙ (let e : suc k ≡ suc k + 0 = omega arith in e))
    ∙ sym (append-nil (bits (suc k) n))

filled : (n : ℕ) (b : Bool) (l : List Bool) (r : List ℕ) → take (0 + length l) (bits_of (packed 0 0 l ++ r)) ≡ bits 0 0 ++ l
    → take (7 + suc (length l)) (bits_of ((and_bit n b ∷ packed 0 0 l) ++ r)) ≡ bits 7 n ++ b ∷ l
filled n b l r ih =
    ap (λ (i : ℕ). take i (bits 8 (and_bit n b) ++ bits_of (packed 0 0 l ++ r))) (let e : 7 + suc (length l) ≡ length (bits 8 (and_bit n b)) + (0 + length l) = omega arith in e)
    ∙ take-append-add (bits 8 (and_bit n b)) (bits_of (packed 0 0 l ++ r)) (0 + length l)
    ∙ ap (λ (x : List Bool). bits 8 (and_bit n b) ++ x) ih
    ∙ ap (λ (x : List Bool). x ++ l) (bits_more 7 n b)
    ∙ append_assoc (bits 7 n) (b ∷ []) l

pub packed_bits : (l : List Bool) (k n : ℕ) (r : List ℕ) → k < 8 → take (k + length l) (bits_of (packed k n l ++ r)) ≡ bits k n ++ l
packed_bits [] k n r h = ended k n r h
packed_bits (b ∷ l) k n r h =
    ⊎_elim
    (λ e. ap (λ (x : List ℕ). take (k + suc (length l)) (bits_of (x ++ r))) (cond-true (eqb k 7) (and_bit n b ∷ packed 0 0 l) (packed (suc k) (and_bit n b) l) (eq-eqb k 7 e))
    ∙ ap (λ (i : ℕ). take (i + suc (length l)) (bits_of ((and_bit n b ∷ packed 0 0 l) ++ r))) e
    ∙ filled n b l r (packed_bits l 0 0 r (omega arith))
    ∙ ap (λ (i : ℕ). bits i n ++ b ∷ l) (sym e))
    (λ ne. ap (λ (x : List ℕ). take (k + suc (length l)) (bits_of (x ++ r))) (cond-false (eqb k 7) (and_bit n b ∷ packed 0 0 l) (packed (suc k) (and_bit n b) l) (ne_eqb k 7 ne))
    ∙ ap (λ (i : ℕ). take i (bits_of (packed (suc k) (and_bit n b) l ++ r))) (let e : k + suc (length l) ≡ suc k + length l = omega arith in e)
    ∙ packed_bits l (suc k) (and_bit n b) r (omega arith)
    ∙ ap (λ (i : ℕ). bits i (and_bit n b) ++ l) (let e : suc k ≡ k + 1 = omega arith in e)
    ∙ ap (λ (x : List Bool). x ++ l) (bits_more k n b)
    ∙ append_assoc (bits k n) (b ∷ []) l)
    (cases_eq k 7)

-- what was packed into a buffer is read back
pub unpacked : (c : List Bool) (old : List ℕ) → circle_of (length c) (laid (pack c) old) ≡ c
unpacked c old =
    ap (λ (i : ℕ). take i (bits_of (pack c ++ drop (length (pack c)) old))) (let e : length c ≡ 0 + length c = omega arith in e)
    ∙ packed_bits c 0 0 (drop (length (pack c)) old) (omega arith)
