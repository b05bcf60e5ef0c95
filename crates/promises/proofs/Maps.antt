-- A free map that agrees, bit by bit and count by count.
use Rattle.std.proofs.Common.{◌≡◌, ℕ, zero, suc, ◌*◌, ◌<◌, ◌≤◌, Bool, true, false, eqb, List, get_or, sym, refl, ap, ◌∙◌, inl, inr, arith}
use mathlib.Core.Bool.{beq}
use Rattle.std.proofs.lemmas.Bool.{and_parts, and_from, eqb-true, eq-eqb, cases_eq, true≢false, false≢true}
use Rattle.sound.specs.Owners.{Owners}
use Rattle.sound.specs.Maps.{nobody, map_bit, free_count, bits_agree, track_agrees, map_agrees}

same_bool : (a b : Bool) → beq a b ≡ true → a ≡ b
same_bool true true e = refl
same_bool true false e = absurd (false≢true e)
same_bool false true e = absurd (false≢true e)
same_bool false false e = refl

bool_same : (a b : Bool) → a ≡ b → beq a b ≡ true
bool_same true true e = refl
bool_same true false e = absurd (true≢false e)
bool_same false true e = absurd (true≢false (sym e))
bool_same false false e = refl

module _ (b : List ℕ) (own : Owners) where
  bits_each : (t n s : ℕ) → bits_agree b own t n ≡ true → s < n → map_bit b (t, s) ≡ nobody own (t, s)
  unfolding bits_agree
  bits_each t zero s e l = absurd (omega arith)
  bits_each t (suc n) s e l =
      let h = and_parts (bits_agree b own t n) (beq (map_bit b (t, n)) (nobody own (t, n))) e in
      elim (cases_eq s n) [
        | inl i ↦ ap (λ (k : ℕ). map_bit b (t, k)) i ∙ same_bool (map_bit b (t, n)) (nobody own (t, n)) h.1 ∙ ap (λ (k : ℕ). nobody own (t, k)) (sym i)
        | inr i ↦ bits_each t n s h.0 (omega arith)
      ]

  bits_all : (t n : ℕ) → ((s : ℕ) → s < n → map_bit b (t, s) ≡ nobody own (t, s)) → bits_agree b own t n ≡ true
  unfolding bits_agree
  bits_all t zero h = refl
  bits_all t (suc n) h =
      and_from (bits_agree b own t n) (beq (map_bit b (t, n)) (nobody own (t, n))) (bits_all t n (λ s l. h s (omega arith)))
      (bool_same (map_bit b (t, n)) (nobody own (t, n)) (h n (omega arith)))

  tracks_each : (n t : ℕ) → map_agrees b own n ≡ true → 1 ≤ t → t ≤ n → track_agrees b own t ≡ true
  unfolding map_agrees
  tracks_each zero t e l h = absurd (omega arith)
  tracks_each (suc n) t e l h =
      let q = and_parts (map_agrees b own n) (track_agrees b own (suc n)) e in
      elim (cases_eq t (suc n)) [
        | inl i ↦ ap (track_agrees b own) i ∙ q.1
        | inr i ↦ tracks_each n t q.0 l (omega arith)
      ]

  pub map_bits : map_agrees b own 35 ≡ true → (t s : ℕ) → 1 ≤ t → t ≤ 35 → s < 24 → map_bit b (t, s) ≡ nobody own (t, s)
  unfolding track_agrees
  map_bits e t s l h m = bits_each t 24 s (and_parts (eqb (get_or b (4 * t) 0) (free_count own t 24)) (bits_agree b own t 24) (tracks_each 35 t e l h)).1 m

  pub map_counts : map_agrees b own 35 ≡ true → (t : ℕ) → 1 ≤ t → t ≤ 35 → get_or b (4 * t) 0 ≡ free_count own t 24
  unfolding track_agrees
  map_counts e t l h = eqb-true (get_or b (4 * t) 0) (free_count own t 24) (and_parts (eqb (get_or b (4 * t) 0) (free_count own t 24)) (bits_agree b own t 24) (tracks_each 35 t e l h)).0

  module _ (bits : (t s : ℕ) → 1 ≤ t → t ≤ 35 → s < 24 → map_bit b (t, s) ≡ nobody own (t, s)) (counts : (t : ℕ) → 1 ≤ t → t ≤ 35 → get_or b (4 * t) 0 ≡ free_count own t 24) where
    track_so : (t : ℕ) → 1 ≤ t → t ≤ 35 → track_agrees b own t ≡ true
    unfolding track_agrees
    track_so t l h =
        and_from (eqb (get_or b (4 * t) 0) (free_count own t 24)) (bits_agree b own t 24) (eq-eqb (get_or b (4 * t) 0) (free_count own t 24) (counts t l h)) (bits_all t 24 (λ s m. bits t s l h m))

    pub map_so : (n : ℕ) → n ≤ 35 → map_agrees b own n ≡ true
    unfolding map_agrees
    map_so zero l = refl
    map_so (suc n) l = and_from (map_agrees b own n) (track_agrees b own (suc n)) (map_so n (omega arith)) (track_so (suc n) (omega arith) l)
