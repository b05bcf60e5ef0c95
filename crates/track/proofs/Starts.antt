use Rattle.std.proofs.Common.{◌≡◌, ℕ, zero, suc, ◌+◌, ◌≤◌, Bool, true, false, cond, List, ◌++◌, length, take, Some, refl, ap, ◌∙◌, arith}
use Rattle.std.proofs.lemmas.List.{append-nil, drop_all, take_all}
use Rattle.std.specs.List.{find, range_with_len}
use Rattle.std.specs.Option.{unwrap_or}
use Rattle.track.specs.Circles.{turned, start}
use Rattle.track.specs.Aligning.{start_from}

-- the first start, as a search
pub start_range : (c : List Bool) (p n : ℕ) → unwrap_or (find (λ q. start (turned q c)) (range_with_len p n)) 0 ≡ start_from c p n
start_range c p zero = refl
start_range c p (suc n) =
    let ih : unwrap_or (find (λ q. start (turned q c)) (range_with_len (p + 1) n)) 0 ≡ start_from c (suc p) n =
    start_range c (p + 1) n ∙ ap (λ (q : ℕ). start_from c q n) (let e : p + 1 ≡ suc p = omega arith in e) in
    elim (start (turned p c)) as (λ v. unwrap_or (cond v (Some p) (find (λ q. start (turned q c)) (range_with_len (p + 1) n))) 0 ≡ cond v p (start_from c (suc p) n))
    [ true ↦ refl | false ↦ ih ]

-- a turn past the circle's end is none
pub turned_over : {X : Type 0} (k : ℕ) (c : List X) → length c ≤ k → turned k c ≡ c
turned_over k c h = ap (λ z. z ++ take k c) (drop_all k c h) ∙ take_all k c h

pub turned_not : {X : Type 0} (c : List X) → turned 0 c ≡ c
turned_not c = append-nil c
