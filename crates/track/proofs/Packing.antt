-- Packing bits into bytes, byte by byte.
use Rattle.std.proofs.Common.{◌≡◌, ℕ, suc, ◌+◌, ◌-◌, ◌*◌, ◌^◌, ◌<◌, Bool, false, cond, eqb, List, [], ◌∷◌, ◌++◌, length, get_or, take, drop, sym, ap, ◌∙◌, inl, inr, arith, pow-add}
use Rattle.std.proofs.lemmas.List.{drop_more, drop_all, get_or_past}
use Rattle.std.proofs.lemmas.Bool.{cond-true, cond-false, cases_eq, cases_lt, eq-eqb, ne_eqb}
use Rattle.gcr.specs.Bits.{and_bit}
use Rattle.track.specs.Fetching.{pack, packed}

-- what j bits that write `code`, and bits to come, are packed into; the eighth bit ends the byte
abbrev pub begun : ℕ → ℕ → List Bool → List ℕ
begun j code l = cond (eqb j 8) (code ∷ pack l) (packed j code l)

begun_bit : (j code : ℕ) (b : Bool) (l : List Bool) → j < 8 → packed j code (b ∷ l) ≡ begun (j + 1) (and_bit code b) l
begun_bit j code b l h = elim (cases_eq j 7) [
  | inl e ↦ cond-true (eqb j 7) (and_bit code b ∷ packed 0 0 l) (packed (suc j) (and_bit code b) l) (eq-eqb j 7 e)
      ∙ sym (cond-true (eqb (j + 1) 8) (and_bit code b ∷ pack l) (packed (j + 1) (and_bit code b) l) (eq-eqb (j + 1) 8 (omega arith)))
  | inr n ↦ cond-false (eqb j 7) (and_bit code b ∷ packed 0 0 l) (packed (suc j) (and_bit code b) l) (ne_eqb j 7 n)
      ∙ ap (λ (i : ℕ). packed i (and_bit code b) l) (let z : suc j ≡ j + 1 = omega arith in z)
      ∙ sym (cond-false (eqb (j + 1) 8) (and_bit code b ∷ pack l) (packed (j + 1) (and_bit code b) l) (ne_eqb (j + 1) 8 (λ e. n (omega arith))))
]

-- zeros fill the last byte
begun_zero : (j code : ℕ) → 0 < j → j < 8 → packed j code [] ≡ begun (j + 1) (code * 2 + 0) []
begun_zero j code g h =
    cond-false (eqb j 0) [] (code * 2 ^ (8 - j) ∷ []) (ne_eqb j 0 (λ e. omega arith))
    ∙ ap (λ (n : ℕ). n ∷ [])
    (ap (λ (i : ℕ). code * 2 ^ i) (let z : 8 - j ≡ (7 - j) + 1 = omega arith in z) ∙ ap (λ (n : ℕ). code * n) (pow-add 2 (7 - j) 1)
    ∙ (let z : code * (2 ^ (7 - j) * 2 ^ 1) ≡ (code * 2 + 0) * 2 ^ (7 - j) = half code (2 ^ (7 - j)) in z))
    ∙ elim (cases_eq j 7) [
      | inl e ↦ ap (λ (i : ℕ). (code * 2 + 0) * 2 ^ (7 - i) ∷ []) e
          ∙ ap (λ (n : ℕ). n ∷ []) (let z : (code * 2 + 0) * 2 ^ (7 - 7) ≡ code * 2 + 0 = omega arith in z)
          ∙ sym (cond-true (eqb (j + 1) 8) ((code * 2 + 0) ∷ []) (packed (j + 1) (code * 2 + 0) []) (eq-eqb (j + 1) 8 (omega arith)))
      | inr n ↦ ap (λ (i : ℕ). (code * 2 + 0) * 2 ^ i ∷ []) (let z : 7 - j ≡ 8 - (j + 1) = omega arith in z)
          ∙ sym (cond-false (eqb (j + 1) 0) [] ((code * 2 + 0) * 2 ^ (8 - (j + 1)) ∷ []) (ne_eqb (j + 1) 0 (λ e. omega arith)))
          ∙ sym (cond-false (eqb (j + 1) 8) ((code * 2 + 0) ∷ []) (packed (j + 1) (code * 2 + 0) []) (ne_eqb (j + 1) 8 (λ e. n (omega arith))))
    ]
  where
    half : (c m : ℕ) → c * (m * 2 ^ 1) ≡ (c * 2 + 0) * m
    half c m = grind arith

-- one bit more, or a zero past the end
pub begun_step : (l : List Bool) (j code code' : ℕ) (b : Bool) → 0 < length l → j < 8 → b ≡ get_or l j false → code' ≡ code * 2 + cond b 1 0 → begun j code (drop j l) ≡ begun (j + 1) code' (drop (j + 1) l)
begun_step l j code code' b n h e f =
    cond-false (eqb j 8) (code ∷ pack (drop j l)) (packed j code (drop j l)) (ne_eqb j 8 (λ z. omega arith))
    ∙ elim (cases_lt j (length l)) [
      | inl g ↦ ap (packed j code) (drop_more l j false g)
          ∙ begun_bit j code (get_or l j false) (drop (j + 1) l) h
          ∙ ap (λ (x : Bool). begun (j + 1) (and_bit code x) (drop (j + 1) l)) (sym e)
      | inr g ↦ ap (packed j code) (drop_all j l g)
          ∙ begun_zero j code (omega arith) h
          ∙ ap (begun (j + 1) (code * 2 + 0)) (sym (drop_all (j + 1) l (omega arith)))
          ∙ ap (λ (x : Bool). begun (j + 1) (code * 2 + cond x 1 0) (drop (j + 1) l)) (sym (e ∙ get_or_past l j false g))
    ]
    ∙ ap (λ (v : ℕ). begun (j + 1) v (drop (j + 1) l)) (sym f)

-- n bytes of a list are written, and the rest is to come
abbrev pub Packing : List Bool → List ℕ → ℕ → Type 0
Packing a buf n = pack a ≡ take n buf ++ pack (drop (n * 8) a)
