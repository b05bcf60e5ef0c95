-- The first start of a circle is the least, and a circle turned to it is aligned.
use Rattle.std.proofs.Common.{◌≡◌, ℕ, zero, suc, ◌+◌, ◌<◌, ◌≤◌, Bool, true, false, cond, List, [], ◌∷◌, length, sym, refl, ap, ◌∙◌, inl, inr, arith}
use Rattle.std.proofs.lemmas.Bool.{cond_both, cases_lt, cases_eq, true≢false}
use Rattle.track.specs.Circles.{turned, start}
use Rattle.track.specs.Aligning.{start_from, first_start}
use Rattle.track.proofs.Starts.{turned_over, turned_not}
use Rattle.track.proofs.Turns.{turning}
use Rattle.aligner.specs.Laws.{Aligning}

near : (c : List Bool) (p n : ℕ) → start_from c p n ≤ p + n
near c p zero = omega arith
near c p (suc n) =
    cond_both (start (turned p c)) p (start_from c (suc p) n) (λ x. x ≤ p + suc n) (λ _. omega arith) (λ _. let h = near c (suc p) n in omega arith)

-- a start is found, and none before it
found : (c : List Bool) (n p q : ℕ) → p ≤ q → q < p + n → start (turned q c) ≡ true → (start (turned (start_from c p n) c) ≡ true) × (start_from c p n ≤ q)
found c zero p q h g e = absurd (omega arith)
found c (suc n) p q h g e =
    cond_both (start (turned p c)) p (start_from c (suc p) n) (λ x. (start (turned x c) ≡ true) × (x ≤ q))
    (λ s. (s, h))
    (λ s. elim (cases_eq p q) [
      | inl i ↦ absurd (true≢false (sym e ∙ ap (λ (k : ℕ). start (turned k c)) (sym i) ∙ s))
      | inr i ↦ found c n (suc p) q (omega arith) (omega arith) e
    ])

none : (c : List Bool) (p n : ℕ) → ((q : ℕ) → start (turned q c) ≡ false) → start_from c p n ≡ 0
none c p zero h = refl
none c p (suc n) h = ap (λ (b : Bool). cond b p (start_from c (suc p) n)) (h p) ∙ none c (suc p) n h

-- a place past the end is the circle's beginning
first : (c : List Bool) (p : ℕ) → start (turned p c) ≡ true → (start (turned (first_start c) c) ≡ true) × (first_start c ≤ p)
first [] p e = absurd (true≢false (sym e ∙ ap start (turned_over p [] (omega arith))))
first (b ∷ l) p e = elim (cases_lt p (length (b ∷ l))) [
  | inl h ↦ found (b ∷ l) (length (b ∷ l)) 0 p (omega arith) (omega arith) e
  | inr h ↦ (let f = found (b ∷ l) (length (b ∷ l)) 0 0 (omega arith) (omega arith) (ap start (turned_not (b ∷ l) ∙ sym (turned_over p (b ∷ l) h)) ∙ e) in
      let g = f.1 in (f.0, omega arith))
]

pub aligning : Aligning first_start
aligning c =
    let w : first_start c ≤ length c = (let h = near c 0 (length c) in omega arith) in
    record {
      within = w;
      begins = λ p e. (first c p e).0;
      least = λ p e. (first c p e).1;
      stays = none c 0 (length c);
      blocks = (turning (first_start c) c w).1;
    }
