-- Laying on a turned circle is laying on the circle, at the same place by its other name.
use Rattle.std.proofs.Common.{◌≡◌, ℕ, ◌+◌, ◌-◌, ◌*◌, ◌<◌, ◌≤◌, Bool, true, false, cond, ◌&&◌, eqb, ltb, leb, List, length, take, is_ok, Ok, Err, Result, sym, refl, ap, ◌∙◌, subst, inl, inr, arith}
use Rattle.std.proofs.lemmas.List.{length-take-le}
use Rattle.std.proofs.lemmas.Bool.{cases_lt, and_parts, eqb-true}
use Rattle.std.proofs.lemmas.Bool.Decides.{nat_tests}
use Rattle.disk.specs.declared.cause.Cause.TheVariants.{NoSuchBlock, Protected, BadSpan}
use Rattle.disk.specs.declared.layer.Layer.TheVariants.{Track}
use Rattle.disk.specs.declared.refusal.Refusal.{Refusal}
use Rattle.disk.specs.Refusals.{refusal, by_caller}
use Rattle.gcr.specs.Bits.{bits_of}
use Rattle.gcr.proofs.Bits.{length_bits_of}
use Rattle.track.specs.Circles.{turned}
use Rattle.track.specs.Fetching.{on_disk}
use Rattle.track.specs.Laying.{laid_on, lay_result, lay_circle}
use Rattle.track.proofs.Circles.{length_turned}
use Rattle.track.proofs.Starts.{turned_over}
use Rattle.laying.proofs.Lays.{lay_accepted}
use Rattle.laying.proofs.Spans.{span}
use Rattle.laying.proofs.Turned.{length_laid_on, laid_turned_low, laid_turned_high}
use Rattle.aligner.specs.Turning.{unturned}

unturned_near : (n k p : ℕ) → ltb (unturned n k p) n ≡ ltb p n
unturned_near n k p = grind (arith, nat_tests)

unturned_low : (n k p : ℕ) → k < n → p < n - k → unturned n k p ≡ k + p
unturned_low n k p h g = grind (arith, nat_tests)

unturned_high : (n k p : ℕ) → k < n → p < n → n - k ≤ p → unturned n k p ≡ p - (n - k)
unturned_high n k p h g f = grind (arith, nat_tests)

unturned_over : (n k p : ℕ) → n ≤ k → unturned n k p ≡ p
unturned_over n k p h = grind (arith, nat_tests)

turned_laid : (c l : List Bool) (k p : ℕ) → length l ≤ length c → p < length c → turned k (laid_on (unturned (length c) k p) l c) ≡ laid_on p l (turned k c)
turned_laid c l k p h g =
    let n : ℕ = length c in
    let q : ℕ = unturned n k p in
    elim (cases_lt k n) [
      | inl m ↦ elim (cases_lt p (n - k)) [
        | inl a ↦ laid_turned_low c l k p q h m a (unturned_low n k p m a)
        | inr a ↦ laid_turned_high c l k p q h m g a (unturned_high n k p m g a)
      ]
      | inr m ↦ (let x = length_laid_on q l c h in
          turned_over k (laid_on q l c) (omega arith)
          ∙ ap (λ (i : ℕ). laid_on i l c) (unturned_over n k p m)
          ∙ ap (laid_on p l) (sym (turned_over k c m)))
    ]

-- every circle c u turned by k u, and laying at place p there and at place q here
pub record TurnedLay (G : Bool) (c : ℕ → List Bool) (k : ℕ → ℕ) (t p q n : ℕ) (given : List ℕ) : Type 0 where
  pub answer : lay_result G (length (c t)) t q n (length given) ≡ lay_result G (length (turned (k t) (c t))) t p n (length given)
  pub circle : (u : ℕ) → turned (k u) (lay_circle G c t q n given u) ≡ lay_circle G (λ u. turned (k u) (c u)) t p n given u

at_place : (G : Bool) (c : ℕ → List Bool) (k : ℕ → ℕ) (t p n : ℕ) (given : List ℕ) → TurnedLay G c k t p (unturned (length (c t)) (k t) p) n given
at_place G c k t p n given =
    let N : ℕ = length (c t) in
    let m : ℕ = length given in
    let q : ℕ = unturned N (k t) p in
    let L : List Bool = take n (bits_of given) in
    let by : Bool → Result Unit Refusal = λ b. cond (on_disk t) (cond G (Err (refusal Protected Track (t, 0))) (cond (b && (leb n N && leb n (m * 8))) (Ok tt) (Err (by_caller BadSpan)))) (Err (refusal NoSuchBlock Track (t, 0))) in
    let a : lay_result G N t q n m ≡ lay_result G (length (turned (k t) (c t))) t p n m =
    ap by (unturned_near N (k t) p) ∙ ap (λ (x : ℕ). lay_result G x t p n m) (sym (length_turned (k t) (c t))) in
    let go : (u : ℕ) (b : Bool) → (is_ok (lay_result G N t q n m) && eqb u t) ≡ b → turned (k u) (cond b (laid_on q L (c u)) (c u)) ≡ cond b (laid_on p L (turned (k u) (c u))) (turned (k u) (c u)) =
    λ u b. elim b as (λ v. (is_ok (lay_result G N t q n m) && eqb u t) ≡ v → turned (k u) (cond v (laid_on q L (c u)) (c u)) ≡ cond v (laid_on p L (turned (k u) (c u))) (turned (k u) (c u))) [
      | true ↦ λ e.
          (let x = and_parts (is_ok (lay_result G N t q n m)) (eqb u t) e in
          let s = span N q n m (lay_accepted G N t q n m x.0).2 in
          let near = s.near in
          let short = s.short in
          let held = s.given in
          let z = unturned_near N (k t) p in
          let h : p < N = grind (arith, nat_tests) in
          let f : length L ≡ n = length-take-le n (bits_of given) (let w = length_bits_of given in omega arith) in
          subst (λ (y : ℕ). turned (k y) (laid_on q L (c y)) ≡ laid_on p L (turned (k y) (c y))) (sym (eqb-true u t x.1)) (turned_laid (c t) L (k t) p (omega arith) h))
      | false ↦ λ e. refl
    ] in
    record {
      answer = a;
      circle = λ u. go u (is_ok (lay_result G N t q n m) && eqb u t) refl
          ∙ ap (λ (x : Result Unit Refusal). cond (is_ok x && eqb u t) (laid_on p L (turned (k u) (c u))) (turned (k u) (c u))) a;
    }

pub turned_lay : (G : Bool) (c : ℕ → List Bool) (k : ℕ → ℕ) (t p q n : ℕ) (given : List ℕ) → q ≡ unturned (length (c t)) (k t) p → TurnedLay G c k t p q n given
turned_lay G c k t p q n given e = subst (λ (x : ℕ). TurnedLay G c k t p x n given) (sym e) (at_place G c k t p n given)
