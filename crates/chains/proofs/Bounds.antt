-- The bound on the number of blocks cuts no route short.
use Rattle.std.proofs.Common.{◌≡◌, ℕ, zero, suc, ◌+◌, ◌≤◌, Bool, true, false, List, [], ◌∷◌, ◌++◌, length, Some, None, Option, Ok, Err, Result, refl, ap, ◌∙◌, arith}
use Rattle.std.proofs.lemmas.List.{length_push}
use Rattle.disk.specs.declared.cause.Cause.TheVariants.{BadStructure}
use Rattle.disk.specs.declared.refusal.Refusal.{Refusal}
use Rattle.disk.specs.Geometry.{Place}
use Rattle.disk.specs.Refusals.{by_volume}
use Rattle.sector.specs.Source.{Disk, and_then}
use Rattle.chains.specs.declared.route.Route.{Route}
use Rattle.chains.specs.declared.route.Route.TheVariants.{File, Directory, Search}
use Rattle.chains.specs.Sets.{among}
use Rattle.chains.specs.Chains.{on_route, stray, visited, link_of, led, chain_from, most}
use Rattle.chains.specs.Laws.{BoundEnough}
use Rattle.chains.proofs.Chains.{visited_on_route}
use Rattle.chains.proofs.Counts.{room, Counted, counted_none, counted_more, few}

pub visited_unmet : (d : Disk) (r : Route) (met : Bool) (from p : Place) (b : List ℕ) → visited d r met from p ≡ Ok b → met ≡ false
unfolding visited
visited_unmet d r met from p b e = go met refl
  where
    go : (y : Bool) → met ≡ y → met ≡ false
    go false g = g
    go true g = cc (rw (visited_on_route d r met from p b e, g) at e)

-- where every block of the route was met, the next link is refused
full_of : (d : Disk) (r : Route) (met : List Place) (from p : Place) → Counted r met → room r ≤ length met → stray r ≡ BadStructure → visited d r (among met p) from p ≡ Err (by_volume BadStructure from)
unfolding visited
full_of d r met from p c h s = go (on_route r p) refl (among met p) refl
  where
    go : (x : Bool) → on_route r p ≡ x → (y : Bool) → among met p ≡ y → visited d r (among met p) from p ≡ Err (by_volume BadStructure from)
    go false f y g = rw (f, s)
    go true f true g = rw (f, g)
    go true f false g = let w = few r (met ++ p ∷ []) (counted_more r met p f c g) in let l = length_push met p in absurd (omega arith)

-- and as the bound refuses it
full : (d : Disk) (r : Route) (met : List Place) (from p : Place) → Counted r met → most r ≤ length met → visited d r (among met p) from p ≡ Err (by_volume BadStructure from)
unfolding room
full d File met from p c h = let f = few File met c in absurd (omega arith)
full d Directory met from p c h = full_of d Directory met from p c h refl
full d (Search n) met from p c h = full_of d (Search n) met from p c h refl

enough : (d : Disk) (r : Route) (m n : ℕ) (met : List Place) (from p : Place) → Counted r met → most r ≤ length met + m → chain_from d r (m + n) met from p ≡ chain_from d r m met from p
unfolding chain_from
enough d r zero zero met from p c h = refl
enough d r zero (suc n) met from p c h =
    let e : zero + suc n ≡ suc n = omega arith in
    ap (λ (k : ℕ). chain_from d r k met from p) e ∙ rw (full d r met from p c (omega arith))
enough d r (suc m) n met from p c h =
    let e : suc m + n ≡ suc (m + n) = omega arith in
    ap (λ (k : ℕ). chain_from d r k met from p) e ∙ go (visited d r (among met p) from p) refl (λ q c'. enough d r m n (met ++ p ∷ []) p q c' (let l = length_push met p in omega arith))
  where
    go : (v : Result (List ℕ) Refusal) → visited d r (among met p) from p ≡ v → ((q : Place) → Counted r (met ++ p ∷ []) → chain_from d r (m + n) (met ++ p ∷ []) p q ≡ chain_from d r m (met ++ p ∷ []) p q) →
        and_then v (λ b. and_then (link_of r p b) (λ l. led l (met ++ p ∷ [], b) (λ q. chain_from d r (m + n) (met ++ p ∷ []) p q)))
        ≡ and_then v (λ b. and_then (link_of r p b) (λ l. led l (met ++ p ∷ [], b) (λ q. chain_from d r m (met ++ p ∷ []) p q)))
    go (Err x) v ih = refl
    go (Ok b) v ih = linked (link_of r p b)
      where
        counted : Counted r (met ++ p ∷ [])
        counted = counted_more r met p (visited_on_route d r (among met p) from p b v) c (visited_unmet d r (among met p) from p b v)

        linked : (l : Result (Option Place) Refusal) → and_then l (λ x. led x (met ++ p ∷ [], b) (λ q. chain_from d r (m + n) (met ++ p ∷ []) p q)) ≡ and_then l (λ x. led x (met ++ p ∷ [], b) (λ q. chain_from d r m (met ++ p ∷ []) p q))
        linked (Err x) = refl
        linked (Ok None) = refl
        linked (Ok (Some q)) = ih q counted

pub bound_enough : BoundEnough most
bound_enough d r from p n = enough d r (most r) n [] from p (counted_none r) (omega arith)
